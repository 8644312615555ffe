-- A window end on bytes: where none waits, and from all turns.
use mathlib.Core.Path.{◌≡◌, refl, sym, ap, ◌∙◌}
use mathlib.Core.List.{List, []}
use Prim.Native.Nat.{ℕ, ◌-◌, ◌*◌, ◌<◌}
use native.Mathlib.Nat.{le_refl}
use lib.Dec.{lit<}
use lib.ListN.{length, get_or, replicate}
use Rattle.tables.specs.View.{union_below}
use Rattle.tables.proofs.Laws.{get_or_zeros}
use Rattle.tables.proofs.Union.{union_zero}
use Rattle.words.specs.Words.{with_word, table_of}
use Rattle.words.proofs.Table.{zero_bytes}
use Rattle.words.proofs.Parts.{table_bytes, table_held}
use Rattle.replies.specs.Replies.{reply}
use Rattle.bandwidth_setup.specs.View.{setup_of}
use Rattle.bandwidth_model.specs.Rules.{Setup, pairs}
use Rattle.bandwidth_model.specs.Calls.{end_window}
use Rattle.bandwidth_model.specs.Waiters.{weights_below}
use Rattle.bandwidth.proofs.Windows.{window_opens, window_size}
use Rattle.bandwidth_waiters.specs.Turns.{turns}
use Rattle.bandwidth_waiters.proofs.Windows.{went, went_still}
use Rattle.bandwidth_lent.specs.Bytes.{Lent, lent, step_bytes}
use Rattle.bandwidth_lent.specs.View.{state_in, Passing}
use Rattle.bandwidth_lent.specs.declared.check.Held.{Held}
use Rattle.bandwidth_service.specs.Service.{tables_in, Weighs, Turned, Begins}
use Rattle.bandwidth_bytes.proofs.Calls.{window_ended}

-- the words of cleared bytes
cleared_words : (n : ℕ) → table_of 4 (replicate (n * 4) 0) ≡ replicate n 0
cleared_words n =
    ap (table_of 4) (sym (zero_bytes 4 n)) ∙ table_bytes 4 (replicate n 0) (lit< tt) (λ i. rw (get_or_zeros n i) (lit< tt))

module _ {l : Lent} {h : Held} (p : Passing l h) where
  abbrev su : Setup
  su = setup_of h.«record».setup

  cleared_is : {U : List ℕ} → U ≡ replicate (length l.used) 0 → U ≡ replicate (pairs su * 4) 0
  cleared_is e = e ∙ ap (λ (n : ℕ). replicate n 0) p.long.tables.used_long

  -- none waits
  pub window_still : (R A U : List ℕ) {bits : ℕ} → R ≡ with_word 8 l.«record» 11 0 → A ≡ l.configured → U ≡ replicate (length l.used) 0
      → bits ≡ union_below (length (table_of 8 l.waiters)) (λ i. get_or (table_of 8 l.waiters) i 0) → bits ≡ 0
      → reply 0 [] (lent R A l.configured U l.counters l.events l.waiters) ≡ step_bytes l end_window
  window_still R A U r a u b z =
      let w = p.words in
      let o = window_opens p.passes in
      window_ended p R A U l.counters l.waiters r a
      (record { used_are = cleared_is u ∙ sym (zero_bytes 4 (pairs su)); pool_is = refl; counters_are = w.counters.bytes_are; waiters_are = w.waiters.bytes_are })
      (went_still o (state_in l h.«record»).monitor su.nr (le_refl su.nr)
      (λ i k. union_zero (length (table_of 8 l.waiters)) (λ j. get_or (table_of 8 l.waiters) j 0) (sym b ∙ z) i (rw o.waiters_long k)))

  -- the waiters are served
  pub window_weighs : Weighs su l.configured l.waiters
  window_weighs = record { opens = window_opens p.passes; active_long = p.long.tables.configured_long; waiters_long = p.long.tables.waiters_long }

  module _ {U : List ℕ} (u : U ≡ replicate (length l.used) 0) {left weights : ℕ} (s : left ≡ su.nbwblks - h.totals.configured)
      (w : weights ≡ weights_below su (table_of 4 l.configured) (table_of 8 l.waiters) su.nr) where
    unused_is : table_of 4 U ≡ replicate (pairs su) 0
    unused_is = ap (table_of 4) (cleared_is u) ∙ cleared_words (pairs su)

    pub window_begins : length U ≡ length l.used → ((i : ℕ) → get_or U i 0 < 256) → Begins su l.configured U l.counters l.events l.waiters (left * su.q) weights
    window_begins k b =
        let x = p.words in
        let long = k ∙ p.long.tables.used_long in
        record {
          weighs = window_weighs;
          words = record { used = table_held 4 (pairs su) U (lit< tt) long b; counters = x.counters; events = x.events; waiters = x.waiters };
          used_long = long;
          unused = unused_is;
          counters_long = p.long.tables.counters_long;
          size_is = window_size p.passes s;
          weights_are = w;
        }

    pub window_turned : (R A U' N W : List ℕ) {pool : ℕ} → R ≡ with_word 8 l.«record» 11 pool → A ≡ l.configured
        → Turned (turns su (table_of 4 l.configured) (table_of 2 l.events) (left * su.q) weights (tables_in U 0 l.counters l.waiters) su.nr) U' pool N W
        → reply 0 [] (lent R A l.configured U' N l.events W) ≡ step_bytes l end_window
    window_turned R A U' N W r a t =
        window_ended p R A U' N W r a t
        (rw (unused_is, window_size p.passes s, w) (went (window_opens p.passes) (state_in l h.«record»).monitor su.nr (le_refl su.nr)))
