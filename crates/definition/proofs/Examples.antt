-- The claims of specs/Examples.antt, by computation.
use mathlib.Core.Path.{refl}
use mathlib.Core.Bool.{xor}
use Rattle.definition.specs.Bounds.{contextual}
use Rattle.definition.specs.Definition.{selected, fate, has_row, rowless, last_of, last_number, between, break_before, give, going_next, start, walk, gone_lines, gone, kept_lines, end_record, bytes_of, rows_of, end_of}
use Rattle.definition.specs.Examples.{Holds, HoldsKept, HandsOver, P, Further}
use Rattle.definition.specs.Rows.{placed}
use Rattle.definition.specs.State.{begun, next_line, breaks, state_next, fate_of, trim, kept_rows}
use Rattle.definition.specs.Text.{handed, up_to, first_place, replaced, text, onto, lines}

pub examples_hold : Holds P × Holds Further
unfolding xor contextual selected fate has_row rowless last_of last_number between break_before give going_next start walk gone_lines gone first_place end_record bytes_of rows_of end_of placed up_to replaced text onto lines
examples_hold = (refl, refl)

pub hands_over : HandsOver
unfolding handed up_to
hands_over = refl

pub examples_kept : HoldsKept P × HoldsKept Further
unfolding xor contextual selected fate last_of going_next up_to replaced text onto lines begun next_line breaks state_next fate_of kept_lines trim kept_rows
examples_kept = (refl, refl)
