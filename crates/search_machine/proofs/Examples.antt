-- The runs of specs/Examples.antt, by computation.
use Rattle.std.proofs.Common.{refl}
use mathlib.Core.Bool.{xor}
use mathlib.Core.List.{flatten}
use Rattle.definition.specs.Bounds.{allowed, contextual}
use Rattle.definition.specs.Definition.{selected, fate, going_next, last_of, kept_lines}
use Rattle.definition.specs.State.{next_line, breaks, state_next, fate_of}
use Rattle.definition.specs.Text.{up_to, first_place, replaced, text, onto, lines, handed}
use Rattle.forms.specs.First.{asked_of}
use Rattle.forms.specs.Limits.{limit_of}
use Rattle.line_words.specs.Numbers.{are_digits, behind, decimal_of, digit_behind, digits_behind, is_dash, is_digit}
use Rattle.line_words.specs.Words.{spaces_of, word_of}
use Rattle.literal_places.specs.Literal.{stands, starts_with}
use Rattle.machine.specs.Machine.{run}
use Rattle.machine.specs.Program.{fed, fed_end, fed_window, feeds, turns}
use Rattle.driver_core.specs.Answer.{answering_since, back_from, below_one_since, rows_since, state_since, walk_next}
use Rattle.driver_core.specs.Walk.{remains_ahead, shown_ahead, waits_ahead, walk_agrees, walk_end, walk_tests}
use Rattle.session.specs.Calls.{answer_result, answer_rows, answer_session, answering, before_quit, below_one, fitting, idle, offer_result, offered, offered_window, offering, open_result, opened, opening, places_next, quit_front, record_of, record_result, recorded, recorded_place, recording, remains, shown_line, stored, stored_window, taking, tell_result, telling, told, told_session, waiting}
use Rattle.session.specs.Held.{unanswered, waits, line_length, since_lines, kept_bytes, held_bytes, kept_from, shown}
use Rattle.session.specs.Sound.{agrees, places_agree, places_tests, sound, taken_bytes}
use Rattle.output.specs.Output.{decimal, spelled}
use Rattle.search_machine.specs.Examples.{Holds, Runs}
use Rattle.search_machine.specs.Head.{looked_at}
use Rattle.search_machine.specs.Search.{hears_of, turn_of}
use Rattle.printing.specs.Texts.{four_text, refused_text}

pub runs_hold : Holds Runs
unfolding open_result offer_result answer_result tell_result telling record_result xor flatten allowed contextual selected fate going_next last_of next_line breaks state_next fate_of kept_lines up_to first_place replaced text onto lines handed asked_of are_digits behind decimal_of digit_behind digits_behind is_dash is_digit limit_of spaces_of word_of stands starts_with run fed fed_end fed_window feeds turns opening opened before_quit idle quit_front fitting taking offering stored stored_window offered offered_window waiting shown_ahead shown_line answer_rows below_one answering answering_since below_one_since rows_since state_since walk_next places_next answer_session told_session told remains recording recorded_place record_of recorded unanswered waits line_length since_lines kept_bytes held_bytes kept_from back_from shown taken_bytes places_tests places_agree walk_tests walk_agrees waits_ahead remains_ahead walk_end agrees sound decimal spelled looked_at hears_of turn_of four_text refused_text
runs_hold = refl
