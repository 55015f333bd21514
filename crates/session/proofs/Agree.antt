-- The list of contradictions as facts.
use Rattle.std.proofs.Common.{◌≡◌, true, ltb-true, lt-ltb, le-leb, leb-true}
use mathlib.Core.Bool.{and-eq-true_iff}
use Rattle.definition.specs.Bounds.{max_window}
use Rattle.driver_core.specs.Walk.{walk_agrees}
use Rattle.driver_core.proofs.Laws.{all_every, every_all, walk_agree_of, walk_agrees_of}
use Rattle.session.specs.declared.Places.{Places}
use Rattle.session.specs.declared.Session.{Session}
use Rattle.session.specs.Sound.{Agree, PlacesAgree, agrees, ahead_bytes, places_agree, places_tests, since_bytes}

pub places_agree_of : (p : Places) → places_agree p ≡ true → PlacesAgree p
unfolding places_agree places_tests
places_agree_of p e =
    let h = every_all (places_tests p) e in
    record {
      some = ltb-true 0 p.window h.0;
      most = leb-true p.window max_window h.1.0;
      floor_next = leb-true p.floor p.next h.1.1.0;
      next_end = leb-true p.next p.end h.1.1.1.0;
      end_window = leb-true p.end p.window h.1.1.1.1.0;
    }

pub places_agree_lem : (p : Places) → PlacesAgree p → places_agree p ≡ true
unfolding places_agree places_tests
places_agree_lem p a =
    all_every (places_tests p) (
      lt-ltb 0 p.window a.some,
      (
        le-leb p.window max_window a.most,
        (le-leb p.floor p.next a.floor_next, (le-leb p.next p.end a.next_end, (le-leb p.end p.window a.end_window, tt))),
      ),
    )

pub agree_of : (s : Session) → agrees s ≡ true → Agree s
unfolding agrees
agree_of s e =
    let h = (and-eq-true_iff (places_agree s.places) (walk_agrees s.walk (since_bytes s) (ahead_bytes s))).0 e in
    record { places = places_agree_of s.places h.0; walk = walk_agree_of s.walk (since_bytes s) (ahead_bytes s) h.1 }

pub agrees_of : (s : Session) → Agree s → agrees s ≡ true
unfolding agrees
agrees_of s a =
    (and-eq-true_iff (places_agree s.places) (walk_agrees s.walk (since_bytes s) (ahead_bytes s))).1
    (places_agree_lem s.places a.places, walk_agrees_of s.walk (since_bytes s) (ahead_bytes s) a.walk)
