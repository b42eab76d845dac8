-- What is still to come from a pass: its peaks keep some (`standing_left`), and those make chains (`to_come`). Each
-- step's law is that of its groups; a machine that is fed nothing stays as it is and gives nothing. Assumes nothing.
use Prim.Native.Nat.{ℕ}
use mathlib.Core.Path.{◌≡◌, refl, ap, ◌∙◌}
use mathlib.Core.Bool.{Bool, true, false, cond, ◌&&◌}
use mathlib.Core.List.{List, [], ◌∷◌}
use lib.Dec.{ltb}
use Rattle.peak_groups.specs.declared.Peak.{Peak}
use Rattle.peak_groups.specs.declared.Group.{Group}
use Rattle.crossing_sets.specs.Groups.{groups}
use Rattle.peak_groups.specs.Groups.{those, tops}
use Rattle.peak_groups.specs.Machine.{gave, closed}
use Rattle.peak_groups.proofs.Groups.{from}
use Rattle.peak_groups.proofs.Left.{turned_next, left, left_next, within, within_next, within_last, closed_none}
use Rattle.peak_groups.specs.Peaks.{high, alike, standing, close}
use Rattle.peak_machine.specs.declared.Envelope.{Envelope}
use Rattle.peak_machine.specs.Step.{met, chained, stepped, fresh}

-- ---- the stretches
module _ (n s : ℕ) where
  abbrev pub standing_left : Group → List Peak → List Peak
  standing_left g l = those (high n s) (within (alike n s) g l)

  standing_next : (g : Group) (p : Peak) (l : List Peak) → (let h = met n s g p in standing_left g (p ∷ l) ≡ cond (gave g h && high n s g.best) (g.best ∷ standing_left h l) (standing_left h l))
  unfolding those
  standing_next g p l = let h = met n s g p in ap (those (high n s)) (within_next (alike n s) g h (p ∷ l) l (turned_next (alike n s g.last p) g p) (left_next (alike n s) g p l)) ∙ go (gave g h)
    where
      go : (k : Bool) → (let h = met n s g p in those (high n s) (cond k (g.best ∷ within (alike n s) h l)
          (within (alike n s) h l)) ≡ cond (k && high n s g.best) (g.best ∷ standing_left h l) (standing_left h l))
      go true = refl
      go false = refl

-- ---- the chains: a kept peak p comes, or none
chains_next : (τ : ℕ) (g : Group) (b : Bool) (p : Peak) (l : List Peak) → (let h = cond b (chained τ g p) g in
    left (close τ) g (cond b (p ∷ l) l) ≡ cond (closed g h.opened) (g.best ∷ left (close τ) h l) (left (close τ)
    h l))
chains_next τ g true p l = left_next (close τ) g p l
chains_next τ g false p l = rw (closed_none g)

-- ---- both
module _ (n s τ : ℕ) where
  unfoldable pub to_come : Envelope → List Peak → List Peak
  to_come e l = left (close τ) e.chains (standing_left n s e.stretches l)

  pub come_next : (e : Envelope) (p : Peak) (l : List Peak) → (let f = stepped n s τ e p in to_come e (p ∷ l)
      ≡ cond (closed e.chains f.chains.opened) (e.chains.best ∷ to_come f l) (to_come f l))
  unfolding to_come stepped
  come_next e p l =
      let h = met n s e.stretches p in
      ap (left (close τ) e.chains) (standing_next n s e.stretches p l)
      ∙ chains_next τ e.chains (gave e.stretches h && high n s e.stretches.best) e.stretches.best (standing_left n s h l)

  -- before the first peak all is to come, and after the last only the open chain's largest
  pub come_first : (l : List Peak) → to_come fresh l ≡ tops (close τ) (standing n s l)
  unfolding to_come within left
  come_first l = refl

  pub come_last : (e : Envelope) → to_come e [] ≡ cond (ltb 0 e.chains.opened) (e.chains.best ∷ []) []
  unfolding to_come those left from tops groups
  come_last e = rw (within_last (alike n s) e.stretches)
