-- What one change of a count keeps, an emptied unit and a flush keep: of one list of counts, or of two that stay in relation.
use mathlib.Core.Path.{◌≡◌, refl}
use mathlib.Core.Bool.{cond}
use mathlib.Core.List.{List, [], ◌∷◌}
use Prim.Native.Nat.{ℕ}
use Rattle.fields.specs.Layout.{get}
use Rattle.fields.specs.Registers as reg
use Rattle.tables.proofs.Tests.{cases}
use Rattle.units.specs.Owners.{is_owned, of_rcid}
use Rattle.units.specs.Counts.{noted, emptied, flushed}

-- a free unit counts for nobody
pub emptied_free : {C : Type 0} (none : C) (settings : List ℕ) (down : C → C) (counts : List C) → emptied none settings down counts 0 ≡ counts
unfolding emptied is_owned
emptied_free none settings down counts = refl

module _ {C D : Type 0} (none : C) (zero : D) (settings : List ℕ) (down : C → C) (less : D → D) (R : List C → List D → Type 0)
    (keep : (k : List C) (d : List D) (mcid at : ℕ) → R k d → R (noted none settings down k mcid at) (noted zero settings less d mcid at)) where
  pub emptied_keeps : (k : List C) (d : List D) (owner : ℕ) → R k d → R (emptied none settings down k owner) (emptied zero settings less d owner)
  unfolding emptied
  emptied_keeps k d owner r =
      let m = get reg.owner_mcid owner in
      let a = get reg.owner_at owner in
      cases (λ b. R (cond b (noted none settings down k m a) k) (cond b (noted zero settings less d m a) d)) (is_owned owner) (λ y. keep k d m a r) (λ n. r)

  pub flushed_keeps : (rcid : ℕ) (owners : List ℕ) (k : List C) (d : List D) → R k d → R (flushed none settings down rcid owners k) (flushed zero settings less rcid owners d)
  unfolding flushed
  flushed_keeps rcid [] k d r = r
  flushed_keeps rcid (o ∷ os) k d r =
      flushed_keeps rcid os _ _
      (cases (λ b. R (cond b (emptied none settings down k o) k) (cond b (emptied zero settings less d o) d)) (of_rcid rcid o) (λ y. emptied_keeps k d o r) (λ n. r))
