-- Laws of a turn in the text: what the code did is what the machine does.
use Rattle.std.specs.Prelude.{Result, Ok, Err}
use Rattle.std.proofs.Common.{◌≡◌, ℕ, ◌*◌, ◌≤◌, Bool, true, false, cond, eqb, List, [], map, length, drop, sym, refl, ap, ◌∙◌, arith, eqb-true}
use mathlib.Core.List.{flatten}
use Rattle.definition.specs.declared.End.{End}
use Rattle.definition.specs.declared.Refusal.{Refusal}
use Rattle.definition.specs.Numbers.{refusal_number}
use Rattle.definition.specs.Rows.{row_size}
use Rattle.driving.specs.Door.{door_fed}
use Rattle.literal_places.specs.Literal.{stands}
use Rattle.machine.specs.declared.Fed.{Fed}
use Rattle.machine.specs.declared.Next.TheVariants.{Goes, Wants, Refuses, Ends}
use Rattle.machine.specs.Machine.{ends, goes, wants}
use Rattle.machine.specs.Program.{fed, fed_by, fed_on, fed_on_window, fed_window, feeds, stays, table_size, turns}
use Rattle.searcher.specs.declared.Searcher.{Searcher}
use Rattle.searcher.specs.Door.{door_answered, searcher}
use Rattle.searcher.proofs.Laws.{rows_le}
use Rattle.driver_core.specs.Answer.{AnswerDecision, AnswerRefused, Give, put_rows}
use Rattle.session.specs.declared.Answered.{Answered}
use Rattle.session.specs.declared.Offered.{Offered}
use Rattle.session.specs.declared.Refused.{Refused}
use Rattle.session.specs.declared.Session.{Session}
use Rattle.session.specs.Calls.{answer_given, answer_result, answer_rows, answer_session, answered, answered_table, answering, offer_result, offered_window, record_result, shown_line}
use Rattle.search_machine.specs.declared.Stage.{Stage}
use Rattle.search_machine.specs.declared.Stage.TheVariants.{Text}
use Rattle.search_machine.specs.Search.{in_text, search_for, state_at, turn_of}
use Rattle.printing.specs.Texts.{end_text, refused_text, row_text, rows_text}
use Rattle.printing.proofs.Laws.{rows_of}

-- # Answered or not

module _ (s : Session) (w table : List ℕ) (hit : Bool) where
  -- what a served answer hands back
  record Given (a : Answered Searcher) : Type 0 where
    pub decides : answering s w (length table) hit ≡ Give
    pub rows : a.rows ≡ length (answer_rows s w hit)
    pub next : a.next ≡ searcher (answer_session s w hit)

  answer_gives : (a : Answered Searcher) → Ok a ≡ door_answered (answer_result s w table hit) → Given a
  unfolding answer_result
  answer_gives a = go (answering s w (length table) hit) refl
    where
      go : (o : AnswerDecision) → answering s w (length table) hit ≡ o → Ok a ≡ door_answered (answer_given o s w hit) → Given a
      go (AnswerRefused k) d e =
          let none : ⊥ = cc in
          absurd none
      go Give d e =
          let same : a ≡ record { rows = length (answer_rows s w hit); next = searcher (answer_session s w hit) } = cc in
          record { decides = d; rows = ap (λ x. x.rows) same; next = ap (λ x. x.next) same }

  answer_refuses : (q : Refused Searcher) → Err q ≡ door_answered (answer_result s w table hit) → answering s w (length table) hit ≡ AnswerRefused q.refusal
  unfolding answer_result
  answer_refuses q = go (answering s w (length table) hit)
    where
      go : (o : AnswerDecision) → Err q ≡ door_answered (answer_given o s w hit) → o ≡ AnswerRefused q.refusal
      go (AnswerRefused k) e =
          let same : q ≡ record { refusal = k; next = searcher s } = cc in
          ap (λ x. AnswerRefused x.refusal) (sym same)
      go Give e =
          let none : ⊥ = cc in
          absurd none

  -- the rows in the table are those of the answer
  pub answered_rows : answering s w (length table) hit ≡ Give
      → rows_text (length (answer_rows s w hit)) (answered_table s w table hit) ≡ flatten (map row_text (answer_rows s w hit))
  unfolding answered_table put_rows
  answered_rows e = rw e (rows_of (answer_rows s w hit) (drop (row_size * length (answer_rows s w hit)) table))

  -- and they lie in it
  pub answered_le : (a : Answered Searcher) → Ok a ≡ door_answered (answer_result s w table hit) → row_size * a.rows ≤ length table
  unfolding answered answer_result
  answered_le a e =
      let given = answer_gives a e in
      let size : row_size * length (answer_rows s w hit) ≤ length table = rw given.decides at (rows_le s w table hit) in
      omega (arith, size, given.rows)

-- # Fed

abbrev Wanting : Session → List ℕ → List ℕ → Fed Session → List ℕ → Type 0
Wanting s w piece f window = (f ≡ stays s Wants) × (window ≡ w) × (length piece ≡ 0)

-- more is wanted only where nothing is left, and then nothing changes
pub fed_wanting : (s : Session) (k : ℕ) (w piece : List ℕ) → (fed s k w piece).next ≡ Wants → Wanting s w piece (fed s k w piece) (fed_window s k w piece)
unfolding fed fed_window
fed_wanting s k w piece = go (eqb k 6)
  where
    by : (r : Result (Offered Session) (Refused Session)) → (fed_by s r).next ≡ Wants → ⊥
    by (Ok o) e = cc
    by (Err r) e = cc

    more : (b : Bool) → eqb (length piece) 0 ≡ b → (cond b (stays s Wants) (fed_by s (offer_result s w piece))).next ≡ Wants
        → Wanting s w piece (cond b (stays s Wants) (fed_by s (offer_result s w piece))) (cond b w (offered_window s w piece))
    more true h e = (refl, refl, eqb-true (length piece) 0 h)
    more false h e = absurd (by (offer_result s w piece) e)

    on : (r : Result End Refusal) → (fed_on r s w piece).next ≡ Wants → Wanting s w piece (fed_on r s w piece) (fed_on_window r s w piece)
    on (Ok end) e =
        let none : ⊥ = cc in
        absurd none
    on (Err q) e = more (eqb (length piece) 0) refl e

    go : (b : Bool) → (cond b (fed_on (record_result s) s w piece) (stays s (Refuses k))).next ≡ Wants
        → Wanting s w piece (cond b (fed_on (record_result s) s w piece) (stays s (Refuses k))) (cond b (fed_on_window (record_result s) s w piece) w)
    go true e = on (record_result s) e
    go false e =
        let none : ⊥ = cc in
        absurd none

-- # The machine's turn

module _ (l : List ℕ) (s : Session) (w rest table : List ℕ) (size : length table ≡ table_size) where
  abbrev hit : Bool
  hit = stands l (shown_line s w)

  in_text_gives : (a : Answered Searcher) → Ok a ≡ door_answered (answer_result s w table hit)
      → turn_of (state_at Text l s w rest) ≡ goes (rows_text a.rows (answered_table s w table hit)) (state_at Text l a.next.session w rest)
  unfolding turn_of turns
  in_text_gives a e =
      let given = answer_gives s w table hit a e in
      let d : answering s w table_size hit ≡ Give = ap (λ n. answering s w n hit) (sym size) ∙ given.decides in
      rw (d, given.rows, given.next, answered_rows s w table hit given.decides)

  in_text_feeds : (q : Refused Searcher) → Err q ≡ door_answered (answer_result s w table hit)
      → turn_of (state_at Text l s w rest) ≡ in_text l (feeds (search_for l) (state_at Text l s w rest).standing (refusal_number q.refusal))
  unfolding turn_of turns
  in_text_feeds q e =
      let d : answering s w table_size hit ≡ AnswerRefused q.refusal = ap (λ n. answering s w n hit) (sym size) ∙ answer_refuses s w table hit q e in
      rw d

-- # What the code did

-- how a turn in the text is begun: the line is shown, matched and answered
pub record Asked (stage : Stage) (l : List ℕ) (s : Session) (w table : List ℕ) (r : Result (Answered Searcher) (Refused Searcher)) (after : List ℕ) : Type 0 where
  pub in_text : stage ≡ Text
  pub size : length table ≡ table_size
  pub answers : r ≡ door_answered (answer_result s w table (stands l (shown_line s w)))
  pub writes : after ≡ answered_table s w table (stands l (shown_line s w))

pub asked_by : {stage : Stage} {l : List ℕ} {s : Session} {w table line : List ℕ} {hit : Bool} {r : Result (Answered Searcher) (Refused Searcher)} {after : List ℕ}
    → stage ≡ Text → length table ≡ table_size → line ≡ shown_line s w → hit ≡ stands l line
    → (r ≡ door_answered (answer_result s w table hit)) × (after ≡ answered_table s w table hit)
    → Asked stage l s w table r after
asked_by {stage} {l} {s} {w} {table} {line} {hit} {r} {after} t z i m a =
    let same : hit ≡ stands l (shown_line s w) = m ∙ ap (λ x. stands l x) i in
    record { in_text = t; size = z; answers = rw same at a.0; writes = rw same at a.1 }

module _ {stage : Stage} {l : List ℕ} {s : Session} {w table : List ℕ} {r : Result (Answered Searcher) (Refused Searcher)} {after : List ℕ} (a : Asked stage l s w table r after) where
  -- the rows lie in the table
  pub asked_rows : {o : Answered Searcher} → r ≡ Ok o → row_size * o.rows ≤ length table
  asked_rows {o} e = answered_le s w table (stands l (shown_line s w)) o (sym e ∙ a.answers)

  module _ (rest : List ℕ) where
    pub turn_gives : {o : Answered Searcher} → r ≡ Ok o → turn_of (state_at stage l s w rest) ≡ goes (rows_text o.rows after) (state_at stage l o.next.session w rest)
    turn_gives {o} e = rw (a.in_text, a.writes) (in_text_gives l s w rest table a.size o (sym e ∙ a.answers))

    -- where no line waits
    module _ {q : Refused Searcher} (refused : r ≡ Err q) {number : ℕ} (number_is : number ≡ refusal_number q.refusal) where
      turn_feeds : turn_of (state_at stage l s w rest) ≡ in_text l (feeds (search_for l) (state_at Text l s w rest).standing number)
      turn_feeds = rw (a.in_text, number_is) (in_text_feeds l s w rest table a.size q (sym refused ∙ a.answers))

      module _ {f : Fed Searcher} (e : f ≡ door_fed (fed s number w rest)) where
        pub turn_goes : {window : List ℕ} → window ≡ fed_window s number w rest → f.next ≡ Goes
            → turn_of (state_at stage l s w rest) ≡ goes [] (state_at stage l f.session.session window (drop f.taken rest))
        unfolding feeds
        turn_goes d n = turn_feeds ∙ rw (a.in_text, d, e, sym (ap (λ x. x.next) e) ∙ n)

        pub turn_wants : f.next ≡ Wants → turn_of (state_at stage l s w rest) ≡ wants (state_at stage l s w rest)
        unfolding feeds
        turn_wants n =
            let next = sym (ap (λ x. x.next) e) ∙ n in
            let same = fed_wanting s number w rest next in
            turn_feeds ∙ rw (next, a.in_text, same.0, same.1)

        pub turn_refuses : {k : ℕ} → f.next ≡ Refuses k → turn_of (state_at stage l s w rest) ≡ ends (refused_text k)
        unfolding feeds
        turn_refuses n = turn_feeds ∙ rw (sym (ap (λ x. x.next) e) ∙ n)

        pub turn_ends : {end : End} → f.next ≡ Ends end → turn_of (state_at stage l s w rest) ≡ ends (end_text end)
        unfolding feeds
        turn_ends n = turn_feeds ∙ rw (sym (ap (λ x. x.next) e) ∙ n)
