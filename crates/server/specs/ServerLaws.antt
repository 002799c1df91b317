-- The laws of one server.
use Rattle.std.specs.Prelude.{◌≡◌, ℕ}
use Rattle.std.proofs.Common.{sym, ap, arith}
use Rattle.station.specs.Laws.{JoinLaws, StationLaws, Agreement}
use Rattle.server.specs.Clock.{clock_end}
use Rattle.server.specs.Server.{server_state, server_summary, server_joins, server_rules}
use Rattle.server.specs.ClockLaws.{capped_assoc, through}

summary_eq : {a b c d : ℕ} → a ≡ c → b ≡ d → server_summary a b ≡ server_summary c d
summary_eq e h = cc

pub server_laws : JoinLaws server_joins
server_laws = record {
  empty_counts = (omega arith, omega arith);
  joined_counts = λ x y hx hy. (omega arith, omega arith);
  empty_left = λ x h. summary_eq (omega arith) (omega arith);
  empty_right = λ x h. summary_eq (omega arith) (omega arith);
  associative = λ x y z hx hy hz. summary_eq (capped_assoc clock_end x.p y.p z.p) (through clock_end x.q y.q y.p z.p z.q);
}

pub server_steps : StationLaws server_joins server_rules
server_steps = record {
  stepped_counts = λ d i hd hi. omega arith;
  of_item_counts = λ i h. (omega arith, omega arith);
  effect_counts = λ x d hx hd. omega arith;
  item_steps = λ i d hi hd. ap server_state (omega arith);
}

pub server_agrees : Agreement server_joins server_rules
server_agrees = record {
  join = λ x y d hx hy hd. ap server_state (sym (through clock_end d.free x.q x.p y.p y.q));
  empty = λ d h. ap server_state (omega arith);
}
