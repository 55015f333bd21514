-- The digits of the bytes passed are collected: there is room for all, which was asked before the first.
use Prim.Native.Nat.{◌+◌, ◌*◌, ◌/◌, ◌%◌, ◌≤◌, ◌<◌}
use mathlib.Core.Path.{◌≡◌, refl, sym, ◌∙◌, ap}
use mathlib.Core.List.{[], ◌∷◌}
use native.Mathlib.Omega.{arith}
use lib.ListN.{length, take, get_or}
use lib.Seq.{take_all}
use borrow.Author.Tests.{leb-true}
use Rattle.std.proofs.lemmas.Grind.{common_steps}
use Rattle.output.specs.Output.{added, collected, fits, seen}
use Rattle.output.proofs.Laws.{added_none, collected_more, collected_room}
use Rattle.hex_text.specs.Hex.{glyph_of, hex_text, hexed}
use Rattle.hex_text.proofs.Laws.{hex_none, hex_some, hexed_next, length_hex_text, length_taken}
use Rattle.hex_text.proofs.put.Goals as goal

pub returns-then-is_empty : goal.returns-then-is_empty
returns-then-is_empty c = grind (arith, common_steps, hex_none)

pub returns-then-not-has_room : goal.returns-then-not-has_room
unfolding collected fits
returns-then-not-has_room c = grind (arith, common_steps, length_hex_text)

pub loop-byte-init : goal.loop-byte-init
unfolding hexed
loop-byte-init c = sym (added_none (seen c.args.out.now))

pub loop-byte-preserved : goal.loop-byte-preserved
loop-byte-preserved c =
    let bytes = c.args.bytes.now in
    let at = c.loop-byte.byte-index in
    let o = seen c.args.out.now in
    let room : o.pending.length + 2 * length bytes ≤ length o.room = leb-true _ _ (sym c.has_room.ensures ∙ c.if-not-has_room.false) in
    let done = hexed (take at bytes) in
    let pair = glyph_of (get_or bytes at 0 / 16) ∷ (glyph_of (get_or bytes at 0 % 16) ∷ []) in
    let more : collected (added o done) pair ≡ added o (hexed (take (at + 1) bytes)) =
    rw (sym (hexed_next at bytes (omega arith))) (collected_more o done pair (omega (arith, room, length_taken at bytes (omega arith)))) in
    rw (c.glyph.ensures, c.glyph-in-loop-byte.ensures, c.loop-byte.invariant) at c.put-in-loop-byte.ensures.value ∙ more

pub returns : goal.returns
returns c =
    let bytes = c.args.bytes.now in
    let o = seen c.args.out.now in
    let some : 0 < length bytes = grind (arith, common_steps) in
    let room : o.pending.length + 2 * length bytes ≤ length o.room = leb-true _ _ (sym c.has_room.ensures ∙ c.if-not-has_room.false) in
    let all : hexed (take c.loop-byte.byte-index bytes) ≡ hex_text bytes =
    ap hexed (take_all c.loop-byte.byte-index bytes (omega arith)) ∙ sym (hex_some bytes some) in
    c.loop-byte.invariant ∙ ap (added o) all ∙ sym (collected_room o (hex_text bytes) (omega (arith, room, length_hex_text bytes some)))
