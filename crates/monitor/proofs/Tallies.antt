-- A table of counters as the words of what a tally keeps of each MCID, and what the calls do to both.
use mathlib.Core.Path.{◌≡◌, refl, sym, ap, ap₂, ◌∙◌}
use mathlib.Core.Bool.{Bool, true, false, not, cond, ◌&&◌}
use mathlib.Core.List.{List, [], ◌∷◌, map}
use Prim.Native.Nat.{ℕ, zero, suc}
use lib.ListN.{get_or, set, replicate, get_or-map}
use Rattle.tables.proofs.Laws.{at_set}
use Rattle.codes.specs.Codes.{◌has◌, no_event}
use Rattle.codes.specs.declared.MonOp.TheVariants.{ConfigEvent}
use Rattle.monitor.specs.Monitor.{Monitor, cleared, mcid_of, event_of, mon_succeeds, write_mon, counted}
use Rattle.monitor.specs.Tally.{Counter, Tally, tally_start, tally_mon, tallied}

module _ {K : Type 0} (f : K → ℕ) where
  map_set : (l : List K) (i : ℕ) (k : K) → map f (set l i k) ≡ set (map f l) i (f k)
  map_set [] i k = refl
  map_set (x ∷ l) zero k = refl
  map_set (x ∷ l) (suc i) k = ap (λ (t : List ℕ). f x ∷ t) (map_set l i k)

  -- one counter and what is kept of it change, or none
  words_change : (b : Bool) (counters : List ℕ) (l : List K) (i x : ℕ) (k : K) → counters ≡ map f l → x ≡ f k
      → cond b (set counters i x) counters ≡ map f (cond b (set l i k) l)
  words_change true counters l i x k e q = ap₂ (λ (t : List ℕ) (z : ℕ). set t i z) e q ∙ sym (map_set l i k)
  words_change false counters l i x k e q = e

  -- nothing kept is the word 0
  module _ (d : K) (z : f d ≡ 0) where
    words_at : (l : List K) (i : ℕ) → get_or (map f l) i 0 ≡ f (get_or l i d)
    words_at l i = ap (get_or (map f l) i) (sym z) ∙ get_or-map f l i d

    words_none : (n : ℕ) → replicate n 0 ≡ map f (replicate n d)
    words_none zero = refl
    words_none (suc n) = ap₂ (λ (x : ℕ) (t : List ℕ). x ∷ t) (sym z) (words_none n)

-- the tally of a monitor whose counters hold these counts
abbrev pub tally_by : {U K : Type 0} → U → Monitor → List K → Tally U K
tally_by u m counts = record { setup = u; settings = m.events; counts = counts; shown = m.value }

-- the tally t is that of the monitor m, of a controller with the set-up u; each count is one that it can hold
pub record Tallied {U K : Type 0} (r : Counter U K) (Fits : U → K → Type 0) (u : U) (m : Monitor) (t : Tally U K) : Type 0 where
  pub counts : List K
  pub same : t ≡ tally_by u m counts
  pub held : m.counters ≡ map (r.word u) counts
  pub fits : (i : ℕ) → Fits u (get_or counts i r.none)

module _ {U K : Type 0} (r : Counter U K) (Fits : U → K → Type 0) (u : U) (z : r.word u r.none ≡ 0) (f : Fits u r.none) where
  fits_start : (n i : ℕ) → Fits u (get_or (replicate n r.none) i r.none)
  fits_start zero i = f
  fits_start (suc n) zero = f
  fits_start (suc n) (suc i) = fits_start n i

  fits_stored : (b : Bool) (l : List K) (i : ℕ) (k : K) → ((j : ℕ) → Fits u (get_or l j r.none)) → Fits u k → (j : ℕ) → Fits u (get_or (cond b (set l i k) l) j r.none)
  fits_stored true l i k a h j = at_set (Fits u) l i j k r.none (a j) h
  fits_stored false l i k a h j = a j

  pub tallied_start : Tallied r Fits u (cleared (r.nm u)) (tally_start r u)
  unfolding cleared tally_start
  tallied_start = record {
    counts = replicate (r.nm u) r.none;
    same = refl;
    held = words_none (r.word u) r.none z (r.nm u);
    fits = fits_start (r.nm u);
  }

  module _ {m : Monitor} {t : Tally U K} (k : Tallied r Fits u m t) where
    counter_in : (i : ℕ) → get_or m.counters i 0 ≡ r.word u (get_or k.counts i r.none)
    counter_in i = ap (λ (l : List ℕ). get_or l i 0) k.held ∙ words_at (r.word u) r.none z k.counts i

    -- each counter holds its count
    pub tallied_counter : (i : ℕ) → get_or m.counters i 0 ≡ r.word t.setup (get_or t.counts i r.none)
    tallied_counter i = rw k.same (counter_in i)

    pub tallied_write : (v : ℕ) → Tallied r Fits u (write_mon (r.na u) (r.nm u) r.resource m v) (tally_mon r t v)
    unfolding write_mon mon_succeeds tally_mon
    tallied_write v =
        let starts = mon_succeeds (r.na u) (r.nm u) r.resource ConfigEvent v && not (no_event has event_of v) in
        record {
          counts = cond starts (set k.counts (mcid_of v) r.none) k.counts;
          same = rw (k.same, counter_in (mcid_of v)) refl;
          held = words_change (r.word u) starts m.counters k.counts (mcid_of v) 0 r.none k.held (sym z);
          fits = fits_stored starts k.counts (mcid_of v) r.none k.fits f;
        }

    pub tallied_counted : (matches : ℕ → Bool) (mcid : ℕ) (change : ℕ → ℕ) (one : K → K)
        → ((x : K) → Fits u x → (change (r.word u x) ≡ r.word u (one x)) × Fits u (one x))
        → Tallied r Fits u (counted (matches (get_or m.events mcid 0)) m mcid change) (tallied r matches t mcid one)
    unfolding counted tallied
    tallied_counted matches mcid change one h =
        let b = matches (get_or m.events mcid 0) in
        let x = get_or k.counts mcid r.none in
        let y = h x (k.fits mcid) in
        record {
          counts = cond b (set k.counts mcid (one x)) k.counts;
          same = rw k.same refl;
          held = words_change (r.word u) b m.counters k.counts mcid (change (get_or m.counters mcid 0)) (one x) k.held (ap change (counter_in mcid) ∙ y.0);
          fits = fits_stored b k.counts mcid (one x) k.fits y.1;
        }
