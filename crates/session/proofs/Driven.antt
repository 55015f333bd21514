-- The claim of specs/Driven.antt, by computation.
use Rattle.std.proofs.Common.{refl}
use mathlib.Core.Bool.{xor}
use mathlib.Core.List.{flatten}
use Rattle.definition.specs.Bounds.{allowed, contextual}
use Rattle.definition.specs.Definition.{selected, fate, going_next, last_of, kept_lines}
use Rattle.definition.specs.State.{next_line, breaks, state_next, fate_of}
use Rattle.definition.specs.Text.{up_to, first_place, replaced, text, onto, lines, handed}
use Rattle.driver_core.specs.Answer.{answering_since, back_from, below_one_since, put_rows, rows_since, state_since, walk_next}
use Rattle.driver_core.specs.Walk.{remains_ahead, shown_ahead, waits_ahead, walk_agrees, walk_end, walk_tests}
use Rattle.session.specs.Calls.{answer_result, answer_rows, answer_session, answered, answered_table, answering, before_quit, below_one, fitting, idle, offer_result, offered, offered_window, offering, open_result, opened, opening, places_next, quit_front, record_of, record_result, recorded, recorded_place, recording, remains, shown_line, stored, stored_window, taking, tell_result, telling, told, told_session, waiting}
use Rattle.session.specs.Driven.{Plays, Table}
use Rattle.session.specs.Held.{unanswered, waits, line_length, since_lines, kept_bytes, held_bytes, kept_from, shown}
use Rattle.session.specs.Sound.{agrees, places_agree, places_tests, sound, taken_bytes}

pub table_plays : Plays Table
unfolding xor flatten allowed contextual selected fate going_next last_of next_line breaks state_next fate_of kept_lines up_to first_place replaced text onto lines handed opening open_result opened before_quit idle quit_front fitting taking offering stored stored_window offer_result offered offered_window waiting shown_ahead shown_line answer_rows below_one answering answering_since below_one_since rows_since state_since walk_next places_next answer_session put_rows answer_result answered answered_table told_session telling tell_result told remains recording record_result recorded_place record_of recorded unanswered waits line_length since_lines kept_bytes held_bytes kept_from back_from shown taken_bytes places_tests places_agree walk_tests walk_agrees waits_ahead remains_ahead walk_end agrees sound
table_plays = refl
