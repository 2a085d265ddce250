-- At every turn the turns before it were made: what they read was taken, and what they wrote is there.
use Rattle.std.proofs.Common.{◌≡◌, length}
use Rattle.trial_text.proofs.Runs.{Going}
use Rattle.trial_text.proofs.Trial.run.Given as goal

abbrev pub invariant-loop : goal.invariant-loop
invariant-loop g l = record {
  same_room : length l.room ≡ length l.initial.room;
  going : Going g.Self.Trial.text_of g.Self.Trial.after (length l.initial.room) l.initial.self l.self (g.R.Read.remaining l.initial.input) (g.R.Read.remaining l.input) (g.W.Write.contents l.initial.out) (g.W.Write.contents l.out) l.counter;
}
