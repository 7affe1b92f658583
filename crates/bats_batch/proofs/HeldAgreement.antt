-- A file agrees with packets exactly where it agrees with the held batches that stand for them and none contradicts.
use Rattle.std.proofs.Common.{ℕ, ◌↔◌, ◌∙◌, ◌==◌, sym, subst, refl, List, All, [], ◌∷◌, inl, inr}
use Rattle.std.proofs.lemmas.Bool.{cases_Bool}
use Rattle.std.proofs.lemmas.List.Elements.{All-nil, All-head, All-tail, All-from_get_or}
use Rattle.bats_model.specs.Agreement.{IsFile, Agrees, AgreesWithAll}
use Rattle.bats_model.specs.Kept.{HasContradiction}
use Rattle.bats_model.specs.declared.packet.Packet.{Packet}
use Rattle.bats_model.proofs.KeptAgreement.{kept-agreement}
use Rattle.bats_batch.specs.Held.{HeldBatch, HeldData, kept_at, batch_at, no_batch, StandsFor}
use Rattle.bats_batch.proofs.HeldBatches.{kept_at-stands}

-- what holds of nothing and of the kept packets of each held batch holds of those at each number
kept_at-holds : (P : List Packet → Type 0) (batches : List HeldBatch) → P [] → All (λ batch. P batch.kept) batches
    → (number : ℕ) → P (kept_at batches number)
kept_at-holds P [] none each number = none
kept_at-holds P (batch ∷ batches) none each number =
    let OfKept : HeldBatch → Type 0 = λ b. P b.kept in
    let here : P batch.kept = All-head OfKept batch batches each in
    let later : P (kept_at batches number) = kept_at-holds P batches none (All-tail OfKept batch batches each) number in
    elim (cases_Bool (batch.number == number)) [
      | inl own ↦ rw own here
      | inr other ↦ rw other later
    ]

pub held-agreement : (packets : List Packet) (held : HeldData) (file : List ℕ) → StandsFor packets held
    → AgreesWithAll held.session packets file
    ↔ (IsFile held.session file × All (λ batch. AgreesWithAll held.session batch.kept file) held.batches × ¬ HasContradiction packets)
held-agreement packets held file stands =
    let law = kept-agreement held.session packets file stands.shapes in
    let Agreeing : List Packet → Type 0 = λ kept. AgreesWithAll held.session kept file in (
      λ agrees.
          let both = law.0 agrees in (
            agrees.is_file,
            All-from_get_or (λ (batch : HeldBatch). AgreesWithAll held.session batch.kept file) held.batches no_batch (λ k within.
                let number : ℕ = (batch_at held.batches k).number in
                subst Agreeing (sym (stands.kept number) ∙ kept_at-stands held.batches stands.rising number k (record { within = within; same = refl }))
                (both.0 number)),
            both.1,
          ),
      λ (is_file, each, none).
          law.1 (
            λ number. subst Agreeing (stands.kept number)
                (kept_at-holds Agreeing held.batches (record { is_file = is_file; each = All-nil (Agrees held.session file) }) each number),
            none,
          ),
    )
