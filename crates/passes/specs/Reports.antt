-- The report on the blocks of a recorded pass.
use Rattle.std.specs.Prelude.{◌≡◌, ℕ, List, [], ◌∷◌, ◌++◌, length, Some, None, IfSome, Ok, Err, Option, codes}
use Rattle.std.specs.List.{AllByRecursion}
use Rattle.station.specs.Laws.{Joins, Rules}
use Rattle.station.specs.Pairs.{pair, pair_joins, pair_rules}
use Rattle.station.specs.Records.{Records}
use Rattle.station.specs.declared.letters.Letter.{Letter}
use Rattle.station.specs.declared.letters.Letter.TheVariants.{F, T, B, S, C, P, Q}
use Rattle.station.specs.declared.pairing.Pair.{Pair}
use Rattle.traces.specs.Traces.{states_along}
use Rattle.block.specs.declared.faults.BlockFault.{BlockFault}
use Rattle.loading.specs.Faults.{load_fault}
use Rattle.loading.specs.declared.faults.LoadCause.TheVariants as cause
use Rattle.server.specs.Records.{job_records}
use Rattle.server.specs.Server.{server_joins, server_rules, server_state, server_text}
use Rattle.tandem.specs.Counted.{counted_records}
use Rattle.tandem.specs.Records.{tandem_job_records}
use Rattle.tandem.specs.Tandem.{tandem_joins, tandem_rules, tandem_state, tandem_text}
use Rattle.buffer.specs.Locked.{locked_records}
use Rattle.buffer.specs.Records.{slot_records}
use Rattle.buffer.specs.Steps.{buffer_state, state_text as buffer_text}
use Rattle.buffer.specs.Summaries.{buffer_joins, buffer_rules}
use Rattle.lock.specs.Maps.{lock_joins, lock_rules}
use Rattle.lock.specs.Records.{event_records}
use Rattle.lock.specs.States.{lock_state, state_text as lock_text}
use Rattle.counts.specs.Counts.{count_joins, count_rules, count_state, count_text}
use Rattle.counts.specs.Records.{frame_count_records}
use Rattle.counts.specs.Tallies.{no_tallies}
use Rattle.run.specs.Rules.{Terms, after}
use Rattle.recordings.specs.Faults.{pass_fault}
use Rattle.recordings.specs.Input.{blocks_of}
use Rattle.recordings.specs.Opening.{IsNote, kind_of}
use Rattle.recordings.specs.Loading.{loads_of, Taken, Broken}
use Rattle.station.specs.Letters.{letter_text}
use Rattle.passes.specs.Texts.{pass_text, empty_text, break_text}
use Rattle.recordings.specs.declared.faults.PassFault.{PassFault}

-- the terms of the run that is loaded: it has room for 512 entries
abbrev pub pass_terms : {I : Type 0} → Records I → Terms I
pass_terms records = record { room = 512; number = 0; records = records }

-- The report on blocks of which the first has a number, and which are loaded into a run of one kind. The run takes all,
-- and the states along its trace are listed; or the last is refused, and its fault is all that is told.
pub data Report {S I D : Type 0} (j : Joins S) (k : Rules S I D) (records : Records I) (start : D) (text_of : D → List ℕ) (first : ℕ) : List (List ℕ) → List ℕ → Type 0 where
  whole : (bs : List (List ℕ)) → Taken j k (pass_terms records) bs
      → Report j k records start text_of first bs (pass_text text_of (letter_text records.letter) (states_along k start (after j k (pass_terms records) (loads_of bs)).entries))
  broken : (bs : List (List ℕ)) (f : PassFault) → Broken j k (pass_terms records) first f bs → Report j k records start text_of first bs (break_text f)

abbrev pub text_beside : {X Y : Type 0} → (X → List ℕ) → (Y → List ℕ) → Pair X Y → List ℕ
text_beside f g p = f p.first ++ (codes " " ++ g p.second)

-- The report by the letter of the kind. A run starts from zeros, and no count seen.
abbrev pub KindReport : Letter → ℕ → List (List ℕ) → List ℕ → Type 0
KindReport F = Report server_joins server_rules job_records (server_state 0) server_text
KindReport T = Report tandem_joins tandem_rules tandem_job_records (tandem_state 0 0) tandem_text
KindReport B = Report buffer_joins buffer_rules slot_records (buffer_state 0 0 0) buffer_text
KindReport S = Report lock_joins lock_rules event_records (lock_state 0) lock_text
KindReport C = Report count_joins count_rules frame_count_records (count_state None no_tallies) count_text
KindReport P =
    Report (pair_joins count_joins tandem_joins) (pair_rules count_rules tandem_rules) counted_records
    (pair (count_state None no_tallies) (tandem_state 0 0)) (text_beside count_text tandem_text)
KindReport Q =
    Report (pair_joins lock_joins buffer_joins) (pair_rules lock_rules buffer_rules) locked_records
    (pair (lock_state 0) (buffer_state 0 0 0)) (text_beside lock_text buffer_text)

-- The report on the blocks of a pass. The first data block gives the kind, and notes are passed over; they count in the
-- numbers of blocks.
pub data ReportOn : List (List ℕ) → List ℕ → Type 0 where
  no_data : (notes : List (List ℕ)) → AllByRecursion IsNote notes → ReportOn notes empty_text
  no_block : (notes : List (List ℕ)) (b : List ℕ) (f : BlockFault) → AllByRecursion IsNote notes → kind_of b ≡ Err f
      → ReportOn (notes ++ (b ∷ [])) (break_text (pass_fault (length notes) (load_fault (cause.Block f) 0)))
  of_kind : (notes rest : List (List ℕ)) (b : List ℕ) (l : Letter) (text : List ℕ) → AllByRecursion IsNote notes → kind_of b ≡ Ok (Some l)
      → KindReport l (length notes) (b ∷ rest) text → ReportOn (notes ++ (b ∷ rest)) text

-- A report on an input of these blocks: on all of them, or, with a fault, on those up to the one that is refused.
pub data OnAll (P : List (List ℕ) → List ℕ → Type 0) (all : List (List ℕ)) : List ℕ → Type 0 where
  to_the_end : (text : List ℕ) → P all text → OnAll P all text
  to_a_fault : (read rest : List (List ℕ)) (f : PassFault) → all ≡ read ++ rest → P read (break_text f) → OnAll P all (break_text f)

-- A report on some blocks, and where the bytes that hold them are known, on all blocks of these.
pub record Told (known : Option (List ℕ)) (P : List (List ℕ) → List ℕ → Type 0) (text : List ℕ) : Type 0 where
  pub blocks : List (List ℕ)
  pub on : P blocks text
  pub all : IfSome known (λ bytes. OnAll P (blocks_of bytes) text)
