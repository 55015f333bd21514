-- 6 first, then an idle piece, then the rest.
use Rattle.std.proofs.Common.{◌≡◌, true, length, sym, ◌∙◌, arith}
use Rattle.definition.specs.declared.Refusal.TheVariants.{Unsound}
use Rattle.driver_core.proofs.Laws.{before_allowed}
use Rattle.session.specs.Calls.{Idle, OfferRefused, idle}
use Rattle.session.specs.Sound.{sound}
use Rattle.session.proofs.Cases.{idling, unsound}
use Rattle.session.proofs.Keeps.{sound_agrees, sound_window}
use Rattle.offering.specs.Plan.{idle_at}
use Rattle.offering.proofs.Laws.{planned_is}
use Rattle.offering.proofs.decide.Goals as goal

pub returns-then-not-is_sound : goal.returns-then-not-is_sound
returns-then-not-is_sound c = planned_is c.args.s c.args.window.now c.args.piece.now (OfferRefused Unsound) (unsound (sym c.is_sound.ensures ∙ c.if-not-is_sound.true))

pub returns-then-is_idle : goal.returns-then-is_idle
unfolding idle idle_at
returns-then-is_idle c =
    let sounds : sound c.args.s (length c.args.window.now) ≡ true =
    sym c.is_sound.ensures ∙ c.if-not-is_sound.false in
    planned_is c.args.s c.args.window.now c.args.piece.now Idle (idling sounds (sym c.is_idle.ensures ∙ c.if-is_idle.true))

pub kept_from-requires : goal.kept_from-requires
kept_from-requires c =
    let sounds : sound c.args.s (length c.args.window.now) ≡ true =
    sym c.is_sound.ensures ∙ c.if-not-is_sound.false in
    let agree = sound_agrees c.args.s (length c.args.window.now) sounds in
    let same = sound_window c.args.s (length c.args.window.now) sounds in
    (agree.places.floor_next, omega (arith, agree, same), before_allowed c.args.s.walk.settings agree.walk.set)

pub decide_from-requires : goal.decide_from-requires
unfolding idle idle_at
decide_from-requires c =
    let sounds : sound c.args.s (length c.args.window.now) ≡ true =
    sym c.is_sound.ensures ∙ c.if-not-is_sound.false in
    let sound = sounds in record {
      sounded = record {
        agree = sound_agrees c.args.s (length c.args.window.now) sound;
        same = sound_window c.args.s (length c.args.window.now) sound;
        from_is = c.kept_from.ensures;
      };
      piece_value = sym c.is_idle.ensures ∙ c.if-is_idle.false;
    }
