-- Laws of the loop over turns in the text: how it stands, and what each way through it leaves.
use Rattle.std.specs.Prelude.{Result, Ok, Err}
use Rattle.std.proofs.Common.{◌≡◌, ℕ, ◌+◌, ◌-◌, ◌<◌, ◌≤◌, false, ◌⊎◌, List, [], length, take, sym, refl, ap, ◌∙◌, inl, inr, ⊎_elim, append-nil, arith}
use Rattle.definition.specs.declared.End.{End}
use Rattle.definition.specs.Numbers.{refusal_number}
use Rattle.definition.specs.Text.{part}
use Rattle.driving.specs.Door.{door_fed}
use Rattle.line_buffer.specs.Buffer.{rolled}
use Rattle.machine.specs.declared.Fed.{Fed}
use Rattle.machine.specs.declared.Next.TheVariants.{Goes, Wants, Refuses, Ends}
use Rattle.machine.proofs.Feeds.{fed_taken}
use Rattle.machine.specs.Machine.{Leads, ends}
use Rattle.machine.specs.Program.{fed, fed_window}
use Rattle.searcher.specs.declared.Searcher.{Searcher}
use Rattle.session.specs.declared.Answered.{Answered}
use Rattle.session.specs.declared.Refused.{Refused}
use Rattle.session.proofs.Parts.{part_drop, part_length}
use Rattle.output.specs.declared.Pending.{Pending}
use Rattle.output.specs.Output.{Tells}
use Rattle.search_machine.specs.declared.Search.{Search}
use Rattle.search_machine.specs.Search.{State, search, state_at, turn_of}
use Rattle.search_machine.specs.Standing.{Placed, Ready, Turned, going_with, over_with, seen, turn_most, wanting_with}
use Rattle.printing.specs.Texts.{end_text, refused_text, rows_text}
use Rattle.turning.proofs.Answers.{Asked, fed_wanting, turn_ends, turn_gives, turn_goes, turn_refuses, turn_wants}
use Rattle.search_machine.proofs.Places.{part_rolled, same_state, tells_within}
use Rattle.machine.proofs.Leads.{closes_ends, leads_goes, leads_none}

-- How the loop stands: some turns were made, and what they print is pending.
pub record Loop (s : Search) (start : State) (window₀ table₀ literal input₀ out₀ window table input out : List ℕ) (searcher : Searcher) (at : ℕ) (pending : Pending) (made : ℕ) : Type 0 where
  pub count : ℕ
  pub leads : Leads search count start (take pending.length out) (state_at s.stage (take s.size literal) searcher.session window (part at s.to input))
  pub counted : made ≤ count
  -- nothing is pending before the first
  pub first : (pending.length ≡ 0) ⊎ (0 < count)
  pub at_to : at ≤ s.to
  pub kept : pending.lost ≡ false
  pub within : pending.length ≤ length out
  pub window_size : length window ≡ length window₀
  pub table_size : length table ≡ length table₀
  pub out_size : length out ≡ length out₀
  pub input_is : input ≡ input₀

pub loop_start : {s : Search} {window table literal input out : List ℕ} → Ready s window table literal input out
    → Loop s (seen s window literal input) window table literal input out window table input out s.searcher s.from s.pending 0
loop_start {s} {window} {table} {literal} {input} {out} r =
    record {
      count = 0;
      leads = rw r.nothing.none (leads_none search (seen s window literal input));
      counted = omega arith;
      first = inl r.nothing.none;
      at_to = r.placed.from_to;
      kept = r.nothing.kept;
      within = omega (arith, r.nothing);
      window_size = refl;
      table_size = refl;
      out_size = refl;
      input_is = refl;
    }

module _ {s : Search} {start : State} {window₀ table₀ literal input₀ out₀ window table input out : List ℕ} {searcher : Searcher} {at : ℕ} {pending : Pending} {made : ℕ} (loop : Loop s start window₀ table₀ literal input₀ out₀ window table input out searcher at pending made) (placed : Placed s input₀) where
  -- the loop is left for now: the output is nearly full, or turns are used up
  pub loop_stops : (0 < pending.length) ⊎ (0 < made) → Turned start (going_with s searcher at pending) window literal input out
  loop_stops h =
      record {
        count = loop.count;
        does = (⊎_elim (λ k. ⊎_elim (λ z. absurd (omega arith)) (λ m. m) loop.first) (λ m. omega (arith, loop.counted)) h, loop.leads);
        room = tt;
        placed = record { literal_in = placed.literal_in; from_to = loop.at_to; to_in = omega (arith, placed.to_in, ap length loop.input_is) };
        collects = record { within = loop.within; kept = loop.kept };
      }

  module _ {r : Result (Answered Searcher) (Refused Searcher)} {after : List ℕ} (a : Asked s.stage (take s.size literal) searcher.session window table r after) where
    pub loop_gives : {o : Answered Searcher} → r ≡ Ok o → length after ≡ length table → {q : Pending} {told : List ℕ} → Tells pending out (rows_text o.rows after) q told
        → Loop s start window₀ table₀ literal input₀ out₀ window after input told o.next at q (made + 1)
    loop_gives {o} h same t =
        record {
          count = loop.count + 1;
          leads = rw t.text_is (leads_goes search loop.count start (take pending.length out) _ (rows_text o.rows after) _ loop.leads (turn_gives a (part at s.to input) h));
          counted = omega (arith, loop.counted);
          first = inr (omega arith);
          at_to = loop.at_to;
          kept = t.lost_is ∙ loop.kept;
          within = tells_within loop.within t;
          window_size = loop.window_size;
          table_size = same ∙ loop.table_size;
          out_size = t.size_is ∙ loop.out_size;
          input_is = loop.input_is;
        }

    -- where no line waits
    module _ {k : Refused Searcher} (h : r ≡ Err k) {number : ℕ} (number_is : number ≡ refusal_number k.refusal) {f : Fed Searcher} {moved : List ℕ} (e : f ≡ door_fed (fed searcher.session number window (part at s.to input))) (m : moved ≡ fed_window searcher.session number window (part at s.to input)) where
      -- no more is taken than is left
      pub loop_taken : at + f.taken ≤ s.to
      loop_taken =
          let piece = part at s.to input in
          omega (
            arith,
            loop.at_to,
            placed.to_in,
            fed_taken searcher.session number window piece,
            part_length at s.to input loop.at_to (omega (arith, placed.to_in, ap length loop.input_is)),
            ap (λ x. x.taken) e,
          )

      pub loop_goes : f.next ≡ Goes → length moved ≡ length window → length after ≡ length table
          → Loop s start window₀ table₀ literal input₀ out₀ moved after input out f.session (at + f.taken) pending (made + 1)
      loop_goes n same-window same-table =
          let printed = take pending.length out in
          let turn = turn_goes a (part at s.to input) h number_is e m n in
          record {
            count = loop.count + 1;
            leads = rw (sym (append-nil printed), sym (part_drop at s.to f.taken input)) (leads_goes search loop.count start printed _ [] _ loop.leads turn);
            counted = omega (arith, loop.counted);
            first = inr (omega arith);
            at_to = loop_taken;
            kept = loop.kept;
            within = loop.within;
            window_size = same-window ∙ loop.window_size;
            table_size = same-table ∙ loop.table_size;
            out_size = loop.out_size;
            input_is = loop.input_is;
          }

      -- all is told
      loop_over : (text : List ℕ) → turn_of (state_at s.stage (take s.size literal) searcher.session window (part at s.to input)) ≡ ends text
          → {q : Pending} {told : List ℕ} → Tells pending out text q told
          → Turned start (over_with s q) moved literal input told
      loop_over text turn t =
          record {
            count = loop.count + 1;
            does = rw t.text_is (closes_ends search loop.count start (take pending.length out) _ text loop.leads turn);
            room = tt;
            placed = record { literal_in = placed.literal_in; from_to = placed.from_to; to_in = omega (arith, placed.to_in, ap length loop.input_is) };
            collects = record { within = tells_within loop.within t; kept = t.lost_is ∙ loop.kept };
          }

      pub loop_refuses : {n : ℕ} → f.next ≡ Refuses n → {q : Pending} {told : List ℕ} → Tells pending out (refused_text n) q told
          → Turned start (over_with s q) moved literal input told
      loop_refuses n t = loop_over _ (turn_refuses a (part at s.to input) h number_is e n) t

      pub loop_ends : {end : End} → f.next ≡ Ends end → {q : Pending} {told : List ℕ} → Tells pending out (end_text end) q told
          → Turned start (over_with s q) moved literal input told
      loop_ends n t = loop_over _ (turn_ends a (part at s.to input) h number_is e n) t

      pub loop_wants : 0 < length input₀ → f.next ≡ Wants → {rest : List ℕ} → rest ≡ rolled (at + f.taken) s.to input
          → length rest ≡ length input
          → Turned start (wanting_with (going_with s f.session (at + f.taken) pending)) moved literal rest out
      loop_wants some n {rest} d same_rest =
          let piece = part at s.to input in
          let wanting = fed_wanting searcher.session number window piece (sym (ap (λ x. x.next) e) ∙ n) in
          let none : f.taken ≡ 0 = ap (λ x. x.taken) e ∙ ap (λ x. x.taken) wanting.0 in
          let here : at + f.taken ≡ at = omega arith in
          let size_is = ap length loop.input_is in
          let to : s.to ≤ length input₀ = placed.to_in in
          let rest-is : part 0 (s.to - (at + f.taken)) rest ≡ piece = ap (λ xs. part 0 (s.to - (at + f.taken)) xs) d ∙ part_rolled (at + f.taken) s.to input loop_taken (omega arith) ∙ ap (λ from. part from s.to input) here in
          let same = same_state s.stage (take s.size literal) (ap (λ x. x.session.session) e ∙ ap (λ x. x.session) wanting.0) (m ∙ wanting.1) rest-is in
          record {
            count = loop.count;
            does = rw same (loop.leads, turn_wants a piece h number_is e n);
            room = omega (arith, part_length at s.to input loop.at_to (omega arith), wanting.2);
            placed = record { literal_in = placed.literal_in; from_to = omega arith; to_in = omega arith };
            collects = record { within = loop.within; kept = loop.kept };
          }
