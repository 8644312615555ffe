-- Words of counters and settings that are loaded and stored, beside the tables that the bytes hold.
use mathlib.Core.Path.{◌≡◌, refl, ap, ◌∙◌}
use mathlib.Core.Bool.{Bool, cond}
use mathlib.Core.List.{List}
use Prim.Native.Nat.{ℕ}
use lib.Dec.{lit<}
use lib.ListN.{get_or, set}
use Rattle.words.specs.Words.{bytes_of_all, with_word, table_of, Holds}
use Rattle.words.proofs.Held.{put_held}
use Rattle.monitor.specs.Monitor.{Monitor, mcid_of, mon_after}
use Rattle.monitor.specs.View.{monitor_of, WordsAfter}
use Rattle.monitor.specs.declared.Registers.{Registers}
use Rattle.monitor.specs.declared.MonWords.{MonWords}
use Rattle.monitor.proofs.Steps.{counted_at, wrote}
use Rattle.monitor_bytes.specs.Monitor.{Stores}

-- the entry of the words that bytes hold
entry_held : (k i w : ℕ) (bs ws : List ℕ) → Holds k bs ws → w ≡ get_or (table_of k bs) i 0 → w ≡ get_or ws i 0
entry_held k i w bs ws h e = rw h.words_are e

module _ (counters events : List ℕ) (ns es : List ℕ) (hn : Holds 8 counters ns) (he : Holds 2 events es) where
  -- a counter changes where its setting matches
  pub counted_bytes : (matches : ℕ → Bool) (change : ℕ → ℕ) (new : List ℕ) (i counter setting left : ℕ) → counter ≡ get_or (table_of 8 counters) i 0 → setting ≡ get_or (table_of 2 events) i 0
      → left ≡ cond (matches setting) (change counter) counter → new ≡ with_word 8 counters i left
      → new ≡ bytes_of_all 8 (cond (matches (get_or es i 0)) (set ns i (change (get_or ns i 0))) ns)
  counted_bytes matches change new i counter setting left c s l e =
      e ∙ put_held 8 (lit< tt) i left counters ns hn
      ∙ ap (bytes_of_all 8) (counted_at matches change ns es (set ns i left) i counter setting left (entry_held 8 i counter counters ns hn c) (entry_held 2 i setting events es he s) l refl)

  -- what a write of mon_ctl leaves
  pub wrote_bytes : (na v st i counter setting : ℕ) (r : Registers) (x : MonWords) (n e : List ℕ) → i ≡ mcid_of v → counter ≡ get_or (table_of 8 counters) i 0 → setting ≡ get_or (table_of 2 events) i 0
      → WordsAfter na st r.value counter setting v x → n ≡ with_word 8 counters i x.counter → e ≡ with_word 2 events i x.setting
      → Stores (mon_after na st (monitor_of r ns es) v) (record { ctl = x.ctl; value = x.value }) n e
  wrote_bytes na v st i counter setting r x n e at_i c s w p q =
      let m : record { ctl = x.ctl; value = x.value; counters = set ns i x.counter; events = set es i x.setting } ≡ mon_after na st (monitor_of r ns es) v =
      wrote na v st i counter setting (monitor_of r ns es) (set ns i x.counter) (set es i x.setting) x at_i (entry_held 8 i counter counters ns hn c) (entry_held 2 i setting events es he s) w refl refl in
      record {
        ctl_is = ap (λ (y : Monitor). y.ctl) m;
        value_is = ap (λ (y : Monitor). y.value) m;
        counters_are = p ∙ put_held 8 (lit< tt) i x.counter counters ns hn ∙ ap (λ (y : Monitor). bytes_of_all 8 y.counters) m;
        events_are = q ∙ put_held 2 (lit< tt) i x.setting events es he ∙ ap (λ (y : Monitor). bytes_of_all 2 y.events) m;
      }
