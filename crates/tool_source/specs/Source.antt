-- What `source` writes, and what it promises.
use Rattle.std.specs.Prelude.{ℕ, ◌*◌, ◌+◌, nat_lt, if◌then◌else◌, List, ◌++◌, length, codes, flat_map, None}
use Rattle.std.specs.List.{range_with_len}
use Rattle.std.specs.Fmt.{decimal}
use Rattle.bats_model.specs.Session.{SessionData, symbols_of, max_symbols}
use Rattle.bats_model.specs.Batch.{batch_of}
use Rattle.bats_model.specs.Coded.{coded_payload, unit_vector}
use Rattle.bats_model.specs.Records.{header_record, packet_record}
use Rattle.tool_run.specs.declared.status.Status.TheVariants as statuses
use Rattle.tool_run.specs.Ending.{Ending, refusal, in_part, to_end}
use Rattle.tool_run.specs.Promise.{Promise, reads_file}
use Rattle.bats_words.specs.declared.source_options.SourceOptions.{SourceOptions}
use Rattle.tool_source.specs.FileSession.{session_for}

-- the record of coded packet j of a batch
unfoldable pub coded_record : SessionData → List ℕ → ℕ → ℕ → List ℕ
coded_record session file number j =
    packet_record number (unit_vector session.m j) (coded_payload session file (batch_of session number) j)

-- the records of the m coded packets of a batch, columns rising
unfoldable pub batch_records : SessionData → List ℕ → ℕ → List ℕ
batch_records session file number = flat_map (coded_record session file number) (range_with_len 0 session.m)

-- the records of the batches asked for, batches rising
unfoldable pub packet_records : SessionData → List ℕ → ℕ → ℕ → List ℕ
packet_records session file first batches = flat_map (batch_records session file) (range_with_len first batches)

-- the header, and then those records
unfoldable pub source_output : SessionData → List ℕ → ℕ → ℕ → List ℕ
source_output session file first batches = header_record session ++ packet_records session file first batches

-- a notes line with these numbers
abbrev pub counts_line : ℕ → ℕ → ℕ → ℕ → List ℕ
counts_line file_length symbols batches packets =
    codes "source: length=" ++ (decimal file_length ++ (codes " symbols=" ++ (decimal symbols
    ++ (codes " batches=" ++ (decimal batches ++ (codes " packets=" ++ (decimal packets ++ codes "\n")))))))

-- the notes line
unfoldable pub source_line : SessionData → ℕ → List ℕ
source_line session batches =
    counts_line session.file_length (symbols_of session) batches (batches * session.m)

-- how many bytes of a file `source` reads at most: those of 4,096 symbols, and one more
abbrev pub most_read : SourceOptions → ℕ
most_read options = max_symbols * options.t + 1

-- the ending on a file that has too many symbols
abbrev pub symbols_ending : Ending
symbols_ending = refusal statuses.Limit (codes "bats: limit symbols\n") in_part

-- the ending of `source` on this file
unfoldable pub source_ending : SourceOptions → List ℕ → Ending
source_ending options file =
    let session = session_for options (length file) in
    if nat_lt max_symbols (symbols_of session) then symbols_ending
    else record {
      status = statuses.Done;
      output = source_output session file options.first options.batches;
      line = source_line session options.batches;
      reach = to_end;
      work = None;
    }

-- what `source` promises: it reads a file, only as far as shows that it is too long, and writes its batches
abbrev pub source_promise : SourceOptions → Promise
source_promise options = reads_file (most_read options) (source_ending options)
