-- Each phase asks no more than what rests; what a step leaves rests again once it is written.
use Prim.Native.Nat.{◌+◌, ◌-◌, ◌≤◌}
use mathlib.Core.Path.{refl}
use mathlib.Core.List.{◌++◌}
use native.Mathlib.Omega.{arith}
use lib.ListN.{length, drop, length-drop, length-take}
use Rattle.streams.proofs.Laws.{tail_back}
use Rattle.serving.proofs.Running.{collects_none, read_in, rests_hearing, rests_written}
use Rattle.serving.proofs.step.Goals as goal

pub heard-requires : goal.heard-requires
heard-requires g c =
    let same = tail_back c.args.s.to c.read-got.new.buffer c.args.input.now c.requires.0.placed.to_in c.read-got.auto.buffer in
    let room : c.args.s.to + length c.read-got.new.buffer ≤ length c.args.input.now = omega (arith, c.read-got.auto.buffer, c.requires.0.placed.to_in, length-take (length c.args.input.now - c.args.s.to) (drop c.args.s.to c.args.input.now), length-drop c.args.s.to c.args.input.now) in
    rests_hearing c.read-got.new.buffer c.requires.0 c.in-Wants.is same room c.read-got.ensures.within (omega (arith, c.requires.1.out_room))

pub returns-in-Going : goal.returns-in-Going
returns-in-Going g c = record { rests = (rests_written c.go_on.ensures.placed c.go_on.ensures.room, c.go_on.ensures.collects); stepped = rw c.in-Going.is c.go_on.ensures }

pub returns-in-Wants : goal.returns-in-Wants
returns-in-Wants g c =
    let heard = c.heard.ensures c.args.window.now c.args.literal.now in
    let behind = c.read-got.new.buffer ++ drop (length c.args.input.now - c.args.s.to) (drop c.args.s.to c.args.input.now) in
    record { rests = (rests_written heard.placed heard.room, heard.collects); stepped = read_in behind c.in-Wants.is c.requires.0 refl heard }

pub returns-in-Over : goal.returns-in-Over
returns-in-Over g c = record { rests = (rests_written c.requires.0.placed c.requires.0.room, collects_none c.args.out.now c.requires.0); stepped = rw c.in-Over.is }
