-- Registers that are read are those of the notes, and what stands of a setting reads back, of any controller that acts on its registers as the rules say.
use mathlib.Core.Path.{◌≡◌, refl, sym, ap, ◌∙◌}
use mathlib.Core.Bool.{Bool, cond}
use mathlib.Core.List.{List, [], ◌∷◌}
use Prim.Native.Nat.{ℕ, ◌<◌}
use lib.Dec.{T}
use Rattle.fields.specs.Layout.{unpack}
use Rattle.fields.specs.Registers.{mon_ctl}
use Rattle.tables.proofs.Tests.{cases, cond_yes}
use Rattle.access.specs.Checks.{Kind, resets, writes, other}
use Rattle.access.specs.Access as access
use Rattle.access.specs.Pairs.{word_at, Setting}
use Rattle.allocation.specs.Allocation.{performs, rcid_of, at_of, alloc_word, operation_status, succeeds, operand_after}
use Rattle.codes.specs.Codes.{alloc_ops}
use Rattle.codes.specs.declared.Resource.{Resource}
use Rattle.codes.specs.declared.AllocOp.TheVariants.{ConfigLimit, ReadLimit}
use Rattle.allocation.proofs.Operations.{read_done}
use Rattle.allocation.proofs.Read.{read_fields, read_sets}
use Rattle.monitor.specs.Monitor.{mon_word, mon_status}
use Rattle.monitor.specs.Tally.{Tally}
use Rattle.monitor.proofs.Control.{mon_word_fields}
use Rattle.monitor.proofs.Operations.{mon_status_lt}
use Rattle.runs.specs.Runs.{Outcome, Event, after, noting, Keeper, TallyKeeper, Machine, step_of, note_of, note_after, Always}
use Rattle.runs.specs.Claims.{Book, Part, Reads, Shows, Notes, control_after, notes, settings, Stands, Lasting, RegisterReads, AllRegisterReads}
use Rattle.runs.proofs.Steps.{done_step, done_by}
use Rattle.runs.proofs.Laws.{Accepts, Keeps, keeps_always, note_part}
use Rattle.runs.proofs.Settings.{Acts, Lasts, Back, Settings, stands, standing}

-- the parts of a controller's state; whether the operand of the CONFIG_LIMIT that a value performs is bad
pub record Parts (S U : Type 0) : Type 0 where
  pub setup : S → U
  pub nr : U → ℕ
  pub na : U → ℕ
  pub nm : U → ℕ
  pub resource : Resource
  pub table : S → List ℕ
  pub bad : S → ℕ → Bool
  pub registers : S → access.RegisterFile

module _ {S U : Type 0} (q : Parts S U) (s : S) (v : ℕ) where
  abbrev pub status_in : ℕ
  status_in = operation_status q.resource (q.nr (q.setup s)) (q.na (q.setup s)) (q.bad s v) v

  abbrev pub mon_status_in : ℕ
  mon_status_in = mon_status (q.na (q.setup s)) (q.nm (q.setup s)) q.resource v

-- what the calls of a controller do to its registers
pub record Registered {S U C A : Type 0} (m : Machine S U C A) (q : Parts S U) : Type 0 where
  pub accepting : Accepts m
  pub resets_kind : (u : U) → m.kind_of (m.reset u) ≡ resets u
  pub writes_kind : (size offset v : ℕ) → m.kind_of (m.write size offset v) ≡ writes size offset v
  pub value : (s : S) (size offset : ℕ) → (m.perform s (m.read size offset)).answer ≡ m.value (access.part size offset (access.word_of (q.registers s) (access.register_at offset)))
  pub value_accepted : (v : ℕ) → T (m.accepted (m.value v))
  pub value_tells : (v w : ℕ) → m.value v ≡ m.value w → v ≡ w
  pub alloc : (s : S) (c : C)
      → (q.registers (m.perform s c).state).alloc_ctl ≡ control_after access.alloc_ctl (λ v. alloc_word (q.na (q.setup s)) v 0 (status_in q s v)) (q.registers s).alloc_ctl (m.kind_of c)
  pub mon : (s : S) (c : C)
      → (q.registers (m.perform s c).state).mon_ctl ≡ control_after access.mon_ctl (λ v. mon_word (q.na (q.setup s)) v 0 (mon_status_in q s v)) (q.registers s).mon_ctl (m.kind_of c)
  pub operand : (s : S) (size v : ℕ)
      → (q.registers (m.perform s (m.write size (24) v)).state).operand ≡ operand_after q.resource (q.nr (q.setup s)) (q.na (q.setup s)) (q.bad s v) (q.table s) (q.registers s).operand v

-- a ledger that knows the state's set-up and operand
pub record Agrees {S U C A L X : Type 0} (m : Machine S U C A) (q : Parts S U) (b : Book S U C A L X) (s : S) (l : L) : Type 0 where
  pub na : b.na l ≡ q.na (q.setup s)
  pub capabilities : b.capabilities l ≡ (q.registers s).capabilities
  pub operand : b.operand l ≡ (q.registers s).operand
  pub status : (v : ℕ) → b.status_by l v ≡ status_in q s v
  pub mon : (v : ℕ) → b.mon_status_by l v ≡ mon_status_in q s v
  pub value : X
  pub sets : (size v : ℕ)
      → b.settings_by l (m.write size 24 v)
      ≡ cond (succeeds q.resource (q.nr (q.setup s)) (q.na (q.setup s)) (q.bad s v) ConfigLimit v) (record { rcid = rcid_of v; at = at_of (q.na (q.setup s)) v; value = value } ∷ []) []

-- ---- one call

module _ {S U C A : Type 0} {m : Machine S U C A} {q : Parts S U} (h : Registered m q) where
  -- what an accepted read answers
  value_is : (s : S) (size offset v : ℕ) → (step_of m s (m.read size offset)).answer ≡ m.value v
      → v ≡ access.part size offset (access.word_of (q.registers s) (access.register_at offset))
  value_is s size offset v e =
      h.value_tells v _ (sym e ∙ ap (λ (o : Outcome S A). o.answer) (done_by h.accepting s (m.read size offset) (m.value v) (h.value_accepted v) e) ∙ h.value s size offset)

  pub reads_now : (s : S) (register : ℕ) → Reads m s register (access.word_of (q.registers s) register)
  reads_now s register size offset v o e = value_is s size offset v e ∙ ap (λ (r : ℕ). access.part size offset (access.word_of (q.registers s) r)) o

  module _ (s : S) (size v : ℕ) where
    shown_alloc : (x : ℕ) → Shows m s access.alloc_ctl size v x → x ≡ alloc_word (q.na (q.setup s)) v 0 (status_in q s v)
    unfolding access.part control_after
    shown_alloc x k =
        value_is (step_of m s (m.write size 24 v)).state 8 24 x k.read
        ∙ ap (λ (o : Outcome S A). (q.registers o.state).alloc_ctl) (done_step h.accepting s (m.write size 24 v) k.written)
        ∙ h.alloc s (m.write size 24 v) ∙ rw (h.writes_kind size 24 v) refl

    shown_mon : (x : ℕ) → Shows m s access.mon_ctl size v x → x ≡ mon_word (q.na (q.setup s)) v 0 (mon_status_in q s v)
    unfolding access.part control_after
    shown_mon x k =
        value_is (step_of m s (m.write size 8 v)).state 8 8 x k.read
        ∙ ap (λ (o : Outcome S A). (q.registers o.state).mon_ctl) (done_step h.accepting s (m.write size 8 v) k.written)
        ∙ h.mon s (m.write size 8 v) ∙ rw (h.writes_kind size 8 v) refl

    -- READ_LIMIT copies the word of a pair that is there
    read_word : (rcid at : ℕ) → rcid < q.nr (q.setup s) → at < q.na (q.setup s) → T (performs q.resource ReadLimit v) → rcid_of v ≡ rcid
        → at_of (q.na (q.setup s)) v ≡ at → T (m.accepted (step_of m s (m.write size 24 v)).answer)
        → (q.registers (step_of m s (m.write size 24 v)).state).operand ≡ word_at (q.na (q.setup s)) (q.table s) rcid at
    unfolding operand_after
    read_word rcid at lr la o er ea t =
        let nr = q.nr (q.setup s) in
        let na = q.na (q.setup s) in
        let d = read_done q.resource nr na (q.bad s v) v o (record { rcid_low = rw er lr; at_low = rw ea la }) in
        ap (λ (x : Outcome S A). (q.registers x.state).operand) (done_step h.accepting s (m.write size 24 v) t)
        ∙ h.operand s size v ∙ cond_yes (succeeds q.resource nr na (q.bad s v) ReadLimit v) _ (q.registers s).operand d ∙ rw (er, ea) refl

-- ---- settings

module _ {S U C A L : Type 0} {m : Machine S U C A} {q : Parts S U} {b : Book S U C A L ℕ} {Inv : S → L → Type 0} {setup_by : L → U} {acts : Acts q.nr q.na} {part : Part ℕ}
    (h : Registered m q) (k : Settings m b Inv q.setup setup_by acts q.table) (na : (l : L) → b.na l ≡ q.na (setup_by l))
    (at : (l : L) (s : S) (rcid at : ℕ) → b.value_at l s rcid at ≡ word_at (q.na (setup_by l)) (q.table s) rcid at) (word : (w : ℕ) → b.word_of w ≡ w) where
  pub lasting : Lasts acts part → (s : S) (l : L) → Inv s l → Lasting m b part s l
  unfolding performs alloc_ops
  lasting d s l i =
      let back : (c : C) (between : List C) (p : Setting ℕ) → Stands m b part s l c between p → Back q.setup acts q.table part (setup_by l) p (after (step_of m) s (c ∷ between))
      = stands m b part h.accepting (standing k d) s l i in
      record {
        kept = λ c between p e.
            let x = back c between p e in
            ap part.of (at l _ p.rcid p.at) ∙ (rw x.same at x.word);
        read_back = λ c between p size v e o er ea t.
            let x = back c between p e in
            let y = after (step_of m) s (c ∷ between) in
            record {
              value = _;
              same = x.word;
              reads = rw (word _, ← read_word h y size v p.rcid p.at x.rcid_low x.at_low o er (ap (λ (u : U). at_of (q.na u) v) x.same ∙ ap (λ (n : ℕ). at_of n v) (sym (na l)) ∙ ea) t)
                  (reads_now h (step_of m y (m.write size 24 v)).state access.operand);
            };
      }

-- ---- registers

control_same : {U : Type 0} (register : ℕ) (f g : ℕ → ℕ) (x y : ℕ) (c : Kind U) → ((v : ℕ) → f v ≡ g v) → x ≡ y → control_after register f x c ≡ control_after register g y c
unfolding control_after
control_same register f g x y (resets u) e d = refl
control_same register f g x y (writes size offset v) e d = rw (e v, d) refl
control_same register f g x y other e d = d

pub record Noted {S U C A L X K : Type 0} (m : Machine S U C A) (q : Parts S U) (b : Book S U C A L X) (Inv : S → L → Type 0) (Counts : S → Tally U K → Type 0)
    (s : S) (n : Notes L (Tally U K)) : Type 0 where
  pub inv : Inv s n.ledger
  pub counts : Counts s n.tally
  pub alloc : (q.registers s).alloc_ctl ≡ n.alloc_ctl
  pub mon : (q.registers s).mon_ctl ≡ n.mon_ctl

-- the invariants of ledger and tally, and what they tell
pub record Invariants {S U C A L X K : Type 0} (m : Machine S U C A) (q : Parts S U) (b : Book S U C A L X) (t : TallyKeeper U C A L (Tally U K)) (Inv : S → L → Type 0)
    (Counts : S → Tally U K → Type 0) : Type 0 where
  pub inv : Keeps m b.keeper Inv
  pub first : (s : S) (u : U) → m.refusal s (m.reset u) ≡ 0 → Counts (m.perform s (m.reset u)).state (t.start u)
  pub next : (s : S) (l : L) (n : Tally U K) → Inv s l → Counts s n → (c : C) → Counts (m.perform s c).state (t.note_call l n c (m.perform s c).answer)
  pub agrees : (s : S) (l : L) → Inv s l → Agrees m q b s l
  pub shown : (s : S) (n : Tally U K) → Counts s n → (q.registers s).mon_ctr_val ≡ n.shown

module _ {S U C A L X K : Type 0} {m : Machine S U C A} {q : Parts S U} {b : Book S U C A L X} {t : TallyKeeper U C A L (Tally U K)} {Inv : S → L → Type 0}
    {Counts : S → Tally U K → Type 0} (h : Registered m q) (k : Invariants m q b t Inv Counts) where
  noted_keeps : Keeps m (notes m b t) (Noted m q b Inv Counts)
  unfolding notes control_after
  noted_keeps = record {
    first = λ s u e. record {
      inv = k.inv.first s u e;
      counts = k.first s u e;
      alloc = h.alloc s (m.reset u) ∙ rw (h.resets_kind u) refl;
      mon = h.mon s (m.reset u) ∙ rw (h.resets_kind u) refl;
    };
    next = λ s n i c e.
        let g = k.agrees s n.ledger i.inv in
        record {
          inv = k.inv.next s n.ledger i.inv c e;
          counts = k.next s n.ledger n.tally i.inv i.counts c;
          alloc = h.alloc s c ∙ control_same access.alloc_ctl _ (λ v. alloc_word (b.na n.ledger) v 0 (b.status_by n.ledger v)) _ n.alloc_ctl (m.kind_of c) (λ v. rw (g.na, g.status v) refl) i.alloc;
          mon = h.mon s c ∙ control_same access.mon_ctl _ (λ v. mon_word (b.na n.ledger) v 0 (b.mon_status_by n.ledger v)) _ n.mon_ctl (m.kind_of c) (λ v. rw (g.na, g.mon v) refl) i.mon;
        };
  }

  pub noted_always : Always m (notes m b t) (Noted m q b Inv Counts)
  noted_always = keeps_always h.accepting noted_keeps

  reads : (s : S) (n : Notes L (Tally U K)) → Noted m q b Inv Counts s n → RegisterReads m b s n
  unfolding settings performs alloc_ops
  reads s n i =
      let l = n.ledger in
      let g = k.agrees s l i.inv in
      let nr = q.nr (q.setup s) in
      let na = q.na (q.setup s) in
      record {
        reads = λ register. rw (← i.alloc, ← i.mon, g.capabilities, g.operand, ← k.shown s n.tally i.counts) (reads_now h s register);
        alloc = λ size v x e. rw (g.na, g.status v) (read_fields q.resource nr na (q.bad s v) v x (shown_alloc h s size v x e));
        set = λ size v x e.
            rw (g.na, cond_yes (m.accepted (step_of m s (m.write size 24 v)).answer) (b.settings_by l (m.write size 24 v)) [] e.written, g.sets size v)
            (read_sets q.resource nr na (q.bad s v) v x (shown_alloc h s size v x e) g.value);
        mon = λ size v x e.
            rw (g.na, g.mon v) (ap (unpack mon_ctl) (shown_mon h s size v x e) ∙ mon_word_fields na v (mon_status_in q s v) (mon_status_lt na (q.nm (q.setup s)) q.resource v));
      }

  -- notes kept beside others are those kept alone
  note_both : {N : Type 0} (part : Notes L (Tally U K) → N) (o : Keeper U C A N) → ((n : Notes L (Tally U K)) (c : C) (a : A) → part ((notes m b t).note_call n c a) ≡ o.note_call (part n) c a)
      → (n : Notes L (Tally U K)) (e : Event C A) → part (note_of m (notes m b t) n e) ≡ note_of m o (part n) e
  unfolding noting
  note_both part o f n e =
      cases (λ x. part (cond x ((notes m b t).note_call n e.call e.answer) n) ≡ cond x (o.note_call (part n) e.call e.answer) (part n)) (m.accepted e.answer)
      (λ y. f n e.call e.answer) (λ y. refl)

  pub register_reads : AllRegisterReads m b t
  unfolding note_after notes
  register_reads = record {
    always = λ s u cs a. reads _ _ (noted_always s u cs a);
    ledger = λ s u cs. note_part (λ n. n.ledger) (note_of m (notes m b t)) (note_of m b.keeper) (note_both (λ n. n.ledger) b.keeper (λ n c a. refl)) _ ((notes m b t).start u);
  }

  -- what holds of the state with ledger or tally
  pub ledger_always : (P : S → L → Type 0) → ((s : S) (l : L) → Inv s l → P s l) → Always m b.keeper P
  ledger_always P f s u cs a = rw (← register_reads.ledger s u cs) (f _ _ (noted_always s u cs a).inv)

  pub tally_always : (P : S → Tally U K → Type 0) → ((s : S) (n : Tally U K) → Counts s n → P s n) → Always m (notes m b t) (λ s n. P s n.tally)
  tally_always P f s u cs a = f _ _ (noted_always s u cs a).counts
