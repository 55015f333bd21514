-- The walk after a line, by what became of it, as the code goes through its fields; and what this leans on.
use Rattle.std.specs.Prelude.{ℕ, ◌+◌, ◌≤◌, not}
use Rattle.definition.specs.declared.Fate.{Fate}
use Rattle.definition.specs.Bounds.{max_input}
use Rattle.definition.specs.Definition.{after_left_next, going_next, is_match, matches_next}
use Rattle.definition.specs.State.{given_next}
use Rattle.driver_core.specs.declared.Walk.{Walk}

-- with the line's length
unfoldable pub walk_step : Fate → Walk → ℕ → Walk
walk_step f k len =
    record {
      settings = k.settings;
      bytes = k.bytes + len;
      lines = k.lines + 1;
      matches = matches_next f k.matches;
      left = after_left_next f k.settings k.left;
      given = given_next f k.given;
      going = going_next k.settings (not (is_match f)) (matches_next f k.matches) (after_left_next f k.settings k.left);
    }

-- its counts stay in range
pub record Stepping (k : Walk) (len : ℕ) : Type 0 where
  pub size : k.bytes + len ≤ max_input
  pub counted : k.lines ≤ max_input
  pub matched : k.matches ≤ max_input
