-- What is read of an input is one thing, and so `show` has one ending on it.
use Rattle.std.proofs.Common.{ℕ, ◌≡◌, ◌∙◌, inl, inr, sym, ap, refl, List, Option, None, Some, arith}
use Rattle.bats_model.specs.Session.{SessionData}
use Rattle.bats_model.specs.Refusal.{RefusesRecord}
use Rattle.bats_model.specs.declared.item.Item.{Item}
use Rattle.bats_model.specs.declared.read_end.ReadEnd.{ReadEnd}
use Rattle.bats_format.proofs.PacketFiles.{same_file, same_files}
use Rattle.bats_format.proofs.Refusals.{refused_once, no_file_refused}
use Rattle.tool_run.specs.Ending.{Ending}
use Rattle.tool_records.specs.Reading.{IsReading}
use Rattle.tool_records.proofs.RefusedReadings.{IsRefused-reading}
use Rattle.tool_stream.specs.Show.{IsShowEnding, show_ending}

-- what two readings of one input have in common
record AreSame (session other : Option SessionData) (list others : List Item) (end last : Option ReadEnd) : Type 0 where
  sessions : session ≡ other
  lists : list ≡ others
  ends : end ≡ last

-- the item records read before a refusal are the same
same_refused : (input : List ℕ) (session other : SessionData) (list others : List Item) (end last : ReadEnd)
    → RefusesRecord input session list end → RefusesRecord input other others last → (session ≡ other) × (list ≡ others)
same_refused input session other list others end last h k =
    let f = h.longest.is_front in
    let g = k.longest.is_front in
    let over = h.longest.longest other others k.front k.rest g in
    let under = k.longest.longest session list h.front h.rest f in
    let same = same_files session other list others h.front h.rest k.front k.rest f.file g.file (sym f.split ∙ g.split) (omega arith) in
    (same.0, same.1)

same_reading : (input : List ℕ) (session other : Option SessionData) (list others : List Item) (end last : Option ReadEnd)
    → IsReading input session list end → IsReading input other others last → AreSame session other list others end last
same_reading input None other list others None last h k = absurd h
same_reading input session None list others end None h k = absurd k
same_reading input (Some session) (Some other) list others None None h k =
    let same = same_file session other list others input h k in
    record { sessions = ap (λ (x : SessionData). Some x) same.0; lists = same.1; ends = refl }
same_reading input (Some session) other list others None (Some last) h k =
    absurd (no_file_refused session list input last h (IsRefused-reading input other others last k))
same_reading input session (Some other) list others (Some end) None h k =
    absurd (no_file_refused other others input end k (IsRefused-reading input session list end h))
same_reading input None None list others (Some end) (Some last) h k = record {
  sessions = refl;
  lists = h.0 ∙ sym k.0;
  ends = ap (λ (x : ReadEnd). Some x) (refused_once input end last (inl h.1) (inl k.1));
}
same_reading input None (Some other) list others (Some end) (Some last) h k =
    absurd (h.1.none other others k.front k.rest k.longest.is_front)
same_reading input (Some session) None list others (Some end) (Some last) h k =
    absurd (k.1.none session list h.front h.rest h.longest.is_front)
same_reading input (Some session) (Some other) list others (Some end) (Some last) h k =
    let same = same_refused input session other list others end last h k in
    record {
      sessions = ap (λ (x : SessionData). Some x) same.0;
      lists = same.1;
      ends = ap (λ (x : ReadEnd). Some x)
          (refused_once input end last (inr (session, list, h)) (inr (other, others, k)));
    }

-- so its endings are one
pub one_show : (input : List ℕ) (ending other : Ending) → IsShowEnding input ending → IsShowEnding input other → ending ≡ other
one_show input ending other h k =
    let same = same_reading input h.session k.session h.list k.list h.end k.end h.reading k.reading in
    h.ending_is
    ∙ ap (λ (x : Option SessionData). show_ending x h.list h.end) same.sessions
    ∙ ap (λ (x : List Item). show_ending k.session x h.end) same.lists
    ∙ ap (λ (x : Option ReadEnd). show_ending k.session k.list x) same.ends
    ∙ sym k.ending_is
