-- A turn that reads a whole case makes one more turn; any other ends the run, and so does the last turn.
use Rattle.std.proofs.Common.{arith, rules, ◌≡◌, ◌<◌, ◌≤◌, length}
use Rattle.std.proofs.KnownBytes.{Appends-nil}
use Rattle.trial_text.proofs.Runs.{told_line, told_nothing, begun, over, turned, out}
use Rattle.trial_text.proofs.Trial.run.Goals as goal
use Rattle.trial_text.proofs.Trial.run.Goals.{in-Some+in_ok-write_to, in_default}

pub loop-init : goal.loop-init
loop-init g c = record { same_room = search rules; going = begun _ _ _ _ _ _ }

pub loop-preserved : goal.loop-preserved
loop-preserved g c =
    let read = c.in_ok-read_case.ensures in
    let before = c.loop.invariant.going in
    let case = c.read_case.new.case in
    let whole : length case ≡ length c.args.room.now = omega arith in
    let all : length case ≤ c.in_ok-read_case.field-0 = omega arith in
    elim c.match-answer.branch [
      | in-Some+in_ok-write_to w ↦ record {
        same_room = whole;
        going = rw w.out-is (turned _ _ before case _ _ _ whole all read.taken read.told (told_line (g.Self.Trial.text_of c.loop.self case) _ (g.met.Self.Trial.has_room c.loop.self case) w.in-Some.ensures.0) w.in-Some.ensures.1
            (rw w.push.ensures at w.in_ok-write_to.ensures.written));
      }
      | in_default w ↦ record {
        same_room = whole;
        going = rw w.out-is (turned _ _ before case _ _ _ whole all read.taken read.told (told_nothing (g.Self.Trial.text_of c.loop.self case) w.in_default.ensures.0) w.in_default.ensures.1 (Appends-nil _));
      }
    ]

pub returns-then-branch-room : goal.returns-then-branch-room
returns-then-branch-room g c =
    let read = c.in_ok-read_case.ensures in
    let case = c.read_case.new.case in
    let whole : length case ≡ length c.args.room.now = omega arith in
    let short : c.in_ok-read_case.field-0 < length c.args.room.now = omega arith in
    over _ _ c.loop.invariant.going case c.in_ok-read_case.field-0 whole read.count.1 short (read.end (omega arith)) read.taken read.told

pub returns-after-loop : goal.returns-after-loop
returns-after-loop g c = out _ _ c.loop.invariant.going (omega arith)
