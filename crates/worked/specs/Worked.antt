-- The worked figures of docs/RULES.md, as facts about the definitions that the contracts cite.
use Rattle.std.specs.Prelude.{◌≡◌, ℕ, List, [], ◌∷◌, Some, Ok, Err}
use Rattle.traces.specs.Entries.{Entry}
use Rattle.station.specs.declared.refusals.Refusal.TheVariants.{StateLimit}
use Rattle.traces.specs.Traces.{ran, states_along, piece_summary}
use Rattle.server.specs.declared.jobs.Job.{Job}
use Rattle.tandem.specs.declared.jobs.TandemJob.{TandemJob}
use Rattle.server.specs.Server.{job, server_state, server_summary, server_joins, server_rules}
use Rattle.tandem.specs.Tandem.{tandem_job, tandem_state, tandem_summary, made_tandem_state, tandem_joins, tandem_rules}
use Rattle.buffer.specs.declared.slots.Slot.{Slot}
use Rattle.buffer.specs.Steps.{slot, buffer_state}
use Rattle.buffer.specs.Summaries.{buffer_summary, buffer_joins, buffer_rules}
use Rattle.lock.specs.declared.maps.LockMap.{LockMap}
use Rattle.lock.specs.Events.{lock_event, good_marker, stow, track}
use Rattle.lock.specs.Maps.{lock_map, lock_joins, lock_rules}
use Rattle.counts.specs.Tallies.{tallied, no_tallies}
use Rattle.counts.specs.Counts.{frame_count, count_state, count_rules}

abbrev server_trace : List (Entry Job)
server_trace = Some (job 10 5) ∷ Some (job 12 5) ∷ Some (job 40 3) ∷ []

abbrev tandem_trace : List (Entry TandemJob)
tandem_trace = Some (tandem_job 0 4 6) ∷ Some (tandem_job 1 4 1) ∷ []

abbrev buffer_trace : List (Entry Slot)
buffer_trace = Some (slot 5 2 4) ∷ Some (slot 1 3 4) ∷ []

-- the map of one letter and then of another
abbrev lock_join : ℕ → ℕ → LockMap
lock_join earlier later = lock_joins.joined (lock_rules.of_item (lock_event earlier)) (lock_rules.of_item (lock_event later))

pub record ServerFigures : Type 0 where
  pub states : states_along server_rules (server_state 0) server_trace ≡ server_state 15 ∷ server_state 20 ∷ server_state 43 ∷ []
  pub summary : piece_summary server_joins server_rules server_trace ≡ server_summary 13 43
  pub replay : ran server_rules (server_state 100) server_trace ≡ server_state 113
  pub effect : server_rules.effect (server_summary 13 43) (server_state 100) ≡ server_state 113
  pub last_tick : ran server_rules (server_state 1099511627774) (Some (job 0 1) ∷ []) ≡ server_state 1099511627775
  pub past_end : ran server_rules (server_state 1099511627775) (Some (job 0 1) ∷ []) ≡ server_state 1099511627775

pub record TandemFigures : Type 0 where
  pub states : states_along tandem_rules (tandem_state 0 0) tandem_trace ≡ tandem_state 4 10 ∷ tandem_state 8 11 ∷ []
  pub summary : piece_summary tandem_joins tandem_rules tandem_trace ≡ tandem_summary 8 8 11 7 11
  pub made : made_tandem_state 5 5 ≡ Ok (tandem_state 5 5)
  pub refused : made_tandem_state 5 4 ≡ Err StateLimit

pub record BufferFigures : Type 0 where
  pub replay : ran buffer_rules (buffer_state 0 0 0) buffer_trace ≡ buffer_state 0 1 5
  pub summary : piece_summary buffer_joins buffer_rules buffer_trace ≡ buffer_summary 0 0 0 1 6

pub record LockFigures : Type 0 where
  pub good_good : lock_join good_marker good_marker ≡ lock_map 0o73333332
  pub stow_track : lock_join stow track ≡ lock_map 0o00000000
  pub track_stow : lock_join track stow ≡ lock_map 0o77777777

pub record CountFigures : Type 0 where
  pub next : count_rules.stepped (count_state (Some 16383) no_tallies) (frame_count 0) ≡ count_state (Some 0) no_tallies
  pub gap : count_rules.stepped (count_state (Some 0) no_tallies) (frame_count 8192) ≡ count_state (Some 8192) (tallied 8191 0 0)
  pub late : count_rules.stepped (count_state (Some 0) no_tallies) (frame_count 8193) ≡ count_state (Some 8193) (tallied 0 0 1)

pub record WorkedFigures : Type 0 where
  pub server : ServerFigures
  pub tandem : TandemFigures
  pub buffer : BufferFigures
  pub lock : LockFigures
  pub counts : CountFigures
