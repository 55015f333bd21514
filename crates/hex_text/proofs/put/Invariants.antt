-- The digits of the bytes passed are collected: there is room for all, which was asked before the first.
use mathlib.Core.Path.{◌≡◌}
use lib.ListN.{take}
use Rattle.output.specs.Output.{added, seen}
use Rattle.hex_text.specs.Hex.{hexed}
use Rattle.hex_text.proofs.put.Given as goal

abbrev pub invariant-loop-byte : goal.invariant-loop-byte
invariant-loop-byte l = seen l.out ≡ added (seen l.initial.out) (hexed (take l.byte-index l.bytes))
