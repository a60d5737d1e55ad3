-- A join keeps a configuration sound: it is the unreduced join, then single steps of reduction. Assumes nothing.
use Rattle.laws.proofs.Library.{◌≡◌, refl, true, false, ◌++◌, ℕ, eqb, eq-eqb, ne_eqb}
use Rattle.rules.specs.Strings.{Str, ◌▹◌}
use Rattle.rules.specs.Stamps.{Stamp, settled, unite, join}
use Rattle.laws.proofs.Tests.{In}
use Rattle.laws.proofs.Steps.{Proper}
use Rattle.laws.proofs.Reduce.{reduce_keeps}
use Rattle.histories.specs.Configurations.{Config, Sound, joined, put, settled_at}
use Rattle.histories.proofs.Config.{here, there, is_where, sound_same}
use Rattle.histories.proofs.Unite.{unite_sound}
use Rattle.histories.proofs.Settle.{settle_sound}

module _ (C : Config) (q : Sound C) (a b : ℕ) (pa : C.present a ≡ true) (pb : C.present b ≡ true) (n : a ≡ b → ⊥) where
  -- the configuration on the way, with x in slot a
  abbrev with_stamp : Stamp → Config
  with_stamp x = record {
    present = put b false C.present;
    stamp = put a x C.stamp;
    events = put a (C.events a ++ C.events b) C.events;
    next = C.next;
  }

  same_slot : eqb a a ≡ true
  same_slot = eq-eqb a a refl

  stays : put b false C.present a ≡ true
  stays = rw (ne_eqb a b n) pa

  step : (s : Str) (x : Stamp) → Proper x → In (s ▹ false) x.id → In (s ▹ true) x.id → Sound (with_stamp x) → Sound (with_stamp (settled s x))
  step s x ok i j h =
      sound_same (settled_at a s (with_stamp x)) (with_stamp (settled s x)) (λ y. refl)
      (λ y p. elim (is_where a y) [ here o e ↦ rw (e, same_slot) | there m e ↦ rw e ]) (λ y p. refl) refl
      (settle_sound (with_stamp x) h a stays s (rw same_slot i) (rw same_slot j))

  pub join_sound : Sound (joined a b C)
  unfolding join
  join_sound =
      let h = unite_sound C q a b pa pb in
      let x = unite (C.stamp a) (C.stamp b) in
      reduce_keeps (λ (z : Stamp). Sound (with_stamp z)) step x (rw same_slot at (h.proper a stays)) h
