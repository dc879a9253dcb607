-- What holds of a coordinator's records as a list, and that filtering, changing and appending keep it.
use Rattle.ckpt_model.proofs.Names.{◌≡◌, ◌≢◌, ℕ, ◌+◌, ◌<◌, ◌≤◌, ◌^◌, Bool, true, false, not, ◌&&◌, ltb, leb, List, [], ◌∷◌, ◌++◌, map, refl, sym, ap, ◌∙◌, arith, count_by, Some, filter, cases_Bool}
use Rattle.ckpt_model.proofs.Names.{both_ways, and_parts, and_right, not-true, ltb-true, lt-ltb, le-ltb, leb-false, Kind, IsIn, IsInOrder, ComesBefore, AreDistinct, IsWithinLimits, Record, uses}
use Rattle.ckpt_model.proofs.Names.{is_present, IsShape, IsIn-append_cases, IsInOrder-append, IsInOrder-filter, IsInOrder-map, ComesBefore-at, IsIn-from_test, test-from_IsIn, limit, Running, State}
use Rattle.ckpt_model.proofs.Names.{Opening, is_checkpoint, is_done_checkpoint, is_done_savepoint, IsSound, IsRecord, id_before, count_by-append, count_by_yes, count_by_no, count_by-same}
use Rattle.ckpt_model.proofs.Names.{common_steps}
use Rattle.ckpt_ids.specs.declared.numbers.Kind.TheVariants as kind
pub use Rattle.ckpt_model.specs.Soundness.{AreSoundRecords, is_pending_checkpoint}
use Rattle.ckpt_model.proofs.Records.Counts.{count_by-le, count_by-changed, IsIn-from_changed}

-- a record is a checkpoint, or none, by its kind
pub is_checkpoint-kind : (r : Record) → r.kind ≡ kind.Checkpoint → is_checkpoint r ≡ true
is_checkpoint-kind r e = ap (λ k. is_checkpoint (record r { kind = k })) e

pub is_savepoint-kind : (r : Record) → r.kind ≡ kind.Savepoint → is_checkpoint r ≡ false
is_savepoint-kind r e = ap (λ k. is_checkpoint (record r { kind = k })) e

-- what holds of its outbox
pub record IsSoundOutbox (records : List Record) (waiting taken : List ℕ) : Type 0 where
  pub unused : (f : ℕ) → IsIn f (waiting ++ taken) → is_present (uses records) f ≡ false
  pub apart : AreDistinct (waiting ++ taken)

-- and of the rest
pub record IsSoundHead (m : State) : Type 0 where
  pub config : IsWithinLimits m.opening.config
  pub shape : IsShape m.shape
  pub latest : m.latest < 2 ^ 62
  pub first : 1 ≤ m.opening.first
  pub next_from : m.opening.first ≤ m.next
  pub next_to : m.next ≤ 2 ^ 62
  pub base : (id : ℕ) → m.base ≡ Some id → is_done_savepoint m id ≡ true
  pub idle : m.mode ≢ Running → (r : Record) → IsIn r m.records → r.done ≡ true
  pub failures : m.mode ≡ Running → m.failures ≤ m.opening.config.tolerable

-- a sound state's outbox
pub outbox_of : {m : State} → IsSound m → IsSoundOutbox m.records m.waiting m.taken
outbox_of {m} s = record { unused = λ f h. s.unused f (test-from_IsIn f (m.waiting ++ m.taken) h); apart = s.apart }

-- a state is sound if its parts are
pub sound_from : (m : State) → IsSoundHead m → AreSoundRecords m.opening m.next m.records → IsSoundOutbox m.records m.waiting m.taken → IsSound m
sound_from m h r o = record {
  config = h.config;
  shape = h.shape;
  latest = h.latest;
  first = h.first;
  next_from = h.next_from;
  next_to = h.next_to;
  records = r;
  base = h.base;
  idle = h.idle;
  failures = h.failures;
  unused = λ f h. o.unused f (IsIn-from_test f (m.waiting ++ m.taken) h);
  apart = o.apart;
}

-- a list that is filtered and then changed

-- a change keeps what the list's order and limits read
pub record IsKept (before after : Record) : Type 0 where
  pub kind : after.kind ≡ before.kind
  pub started : after.started ≡ before.started
  pub pending : after.done ≡ false → before.done ≡ false

-- a change that keeps the kind keeps checkpoints
same_checkpoint : (before after : Record) → IsKept before after → is_checkpoint after ≡ is_checkpoint before
same_checkpoint before after k = let of_kind : Kind → Bool = λ k. elim k [ kind.Checkpoint ↦ true | kind.Savepoint ↦ false ] in ap of_kind k.kind

-- a pending checkpoint was one before
pub pending_checkpoint_before : (before after : Record) → IsKept before after → is_pending_checkpoint after ≡ true → is_pending_checkpoint before ≡ true
pending_checkpoint_before before after k h = grind (arith, common_steps)

-- and one that keeps the numbers keeps the order
pub in_order-changed : (h : Record → Record) (q : Record → Bool) (rs : List Record) → ((r : Record) → (h r).id ≡ r.id) → IsInOrder id_before rs → IsInOrder id_before (map h (filter q rs))
in_order-changed h q rs same a =
    IsInOrder-map id_before id_before h (filter q rs) (λ x y e. lt-ltb (h x).id (h y).id (omega (arith, same x, same y, ltb-true x.id y.id e))) (IsInOrder-filter id_before q rs a)

-- what filtering and changing leaves
pub changed_records : {o : Opening} {next : ℕ} {rs : List Record} (h : Record → Record) (q : Record → Bool) → AreSoundRecords o next rs → ((r : Record) → (h r).id ≡ r.id)
    → ((r : Record) → IsIn r rs → IsKept r (h r)) → ((r : Record) → IsIn r rs → q r ≡ true → IsRecord (h r)) → count_by is_done_checkpoint (map h (filter q rs)) ≤ o.config.retained
    → ((r s : Record) → IsIn r rs → IsIn s rs → q r ≡ true → q s ≡ true → is_pending_checkpoint (h r) ≡ true → is_done_checkpoint (h s) ≡ true → s.id < r.id)
    → AreSoundRecords o next (map h (filter q rs))
changed_records {o} {next} {rs} h q a same kept each retained newer = record {
  in_order = in_order-changed h q rs same a.in_order;
  retained = retained;
  from_first = λ r k. grind (arith, common_steps, IsIn-from_changed h q r rs k, same, a.from_first);
  below_next = λ r k. grind (arith, common_steps, IsIn-from_changed h q r rs k, same, a.below_next);
  each = λ r k. let p = IsIn-from_changed h q r rs k in rw p.3 (each p.0 p.1 p.2);
  started = λ r k. let p = IsIn-from_changed h q r rs k in rw p.3 (omega (arith, (kept p.0 p.1).started, a.started p.0 p.1));
  at_once = omega (arith, a.at_once, count_by-changed is_pending_checkpoint is_pending_checkpoint h q rs (λ x k _ t. pending_checkpoint_before x (h x) (kept x k) t));
  savepoints_to = omega (arith, a.savepoints_to, count_by-changed (λ r. not (is_checkpoint r)) (λ r. not (is_checkpoint r)) h q rs (λ x k _ t. ap not (sym (same_checkpoint x (h x) (kept x k))) ∙ t));
  newer = grind (arith, common_steps, IsIn-from_changed, newer, same);
}

-- what filtering alone leaves
pub filtered_records : {o : Opening} {next : ℕ} {rs : List Record} (q : Record → Bool) → AreSoundRecords o next rs → AreSoundRecords o next (map (λ r. r) (filter q rs))
filtered_records {o} {next} {rs} q a =
    let itself : Record → Record = λ r. r in
    let fewer : count_by is_done_checkpoint (map itself (filter q rs)) ≤ count_by is_done_checkpoint rs = count_by-changed is_done_checkpoint is_done_checkpoint itself q rs (λ x k _ t. t) in
    changed_records itself q a (λ r. refl) (λ r k. record { kind = refl; started = refl; pending = λ e. e }) (λ r k _. a.each r k) (omega (arith, a.retained)) (λ r s j k _ _ p d. a.newer r s j k p d)

-- one pending record more, with the next number
pub appended_records : {o : Opening} {next : ℕ} {rs : List Record} (r : Record) → AreSoundRecords o next rs → o.first ≤ next → r.id ≡ next → r.done ≡ false → IsRecord r → r.started < 2 ^ 62
    → count_by is_pending_checkpoint (rs ++ r ∷ []) ≤ limit o.config → count_by (λ s. not (is_checkpoint s)) (rs ++ r ∷ []) ≤ 1000 → AreSoundRecords o (next + 1) (rs ++ r ∷ [])
appended_records {o} {next} {rs} r a first id done each started at_once savepoints_to =
    let late : (x y : Record) → IsIn x rs → IsIn y (r ∷ []) → id_before x y ≡ true = λ x y j k. grind (arith, common_steps, a.below_next x j) in
    record {
      in_order = IsInOrder-append id_before rs (r ∷ []) a.in_order (tt, tt) late;
      at_once = at_once;
      savepoints_to = savepoints_to;
      from_first = λ x k. grind (arith, common_steps, a.from_first x, IsIn-append_cases x rs (r ∷ []) k);
      below_next = λ x k. grind (arith, common_steps, a.below_next x, IsIn-append_cases x rs (r ∷ []) k);
      each = λ x k. grind (arith, common_steps, a.each x, each, IsIn-append_cases x rs (r ∷ []) k);
      started = λ x k. grind (arith, common_steps, a.started x, IsIn-append_cases x rs (r ∷ []) k);
      retained = grind (arith, common_steps, a.retained, count_by-append is_done_checkpoint rs (r ∷ []), count_by_no is_done_checkpoint r []);
      newer = λ x y j k p d. grind (arith, common_steps, a.newer, a.below_next, IsIn-append_cases x rs (r ∷ []) j, IsIn-append_cases y rs (r ∷ []) k, both_ways r.done done, and_parts y.done);
    }

-- the newest that pass a test

-- a test that holds adds nothing
and_true : (b : Bool) → (b && true) ≡ b
and_true b = grind (arith, common_steps)

-- how many that pass come after a record
abbrev pub later : (Record → Bool) → Record → List Record → ℕ
later p r rs = count_by (λ s. p s && ltb r.id s.id) rs

-- the first of a list in order has all others after it
later_first : (p : Record → Bool) (r : Record) (rs : List Record) → ComesBefore id_before r rs → later p r (r ∷ rs) ≡ count_by p rs
later_first p r rs c = grind (arith, common_steps, ComesBefore-at, and_right, and_true, count_by-same, count_by_no, le-ltb)

-- one that comes after the first has as many after it without the first
pub later_rest : (p : Record → Bool) (x r : Record) (rs : List Record) → x.id ≤ r.id → later p r (x ∷ rs) ≡ later p r rs
later_rest p x r rs h = grind (arith, common_steps)

-- of those that pass, the ones with fewer than n later ones are n at most
pub newest_at_most : (p : Record → Bool) (n : ℕ) (rs : List Record) → IsInOrder id_before rs → count_by (λ r. p r && not (leb n (later p r rs))) rs ≤ n
newest_at_most p n [] a = omega arith
newest_at_most p n (x ∷ xs) a =
    let test : Record → Bool = λ r. p r && not (leb n (later p r (x ∷ xs))) in
    let test_rest : Record → Bool = λ r. p r && not (leb n (later p r xs)) in
    let tail : count_by test xs ≡ count_by test_rest xs =
    count_by-same test test_rest xs (λ r h. let less = ltb-true x.id r.id (ComesBefore-at id_before x r xs a.0 h) in rw (later_rest p x r xs (omega arith)) refl) in
    let fewer : count_by test_rest xs ≤ count_by p xs = count_by-le test_rest p xs (λ r h t. (and_parts (p r) _ t).0) in
    grind (arith, common_steps, newest_at_most p n xs a.1, not-true, and_parts, leb-false, count_by_yes, later_first, count_by_no, cases_Bool)

-- with fewer than n that pass, each has fewer than n later ones
few_later : (p : Record → Bool) (n : ℕ) (r : Record) (rs : List Record) → count_by p rs < n → (p r && not (leb n (later p r rs))) ≡ p r
few_later p n r rs few =
    let fewer : later p r rs ≤ count_by p rs = count_by-le (λ s. p s && ltb r.id s.id) p rs (λ s h t. (and_parts (p s) _ t).0) in
    grind (arith, common_steps, and_true, cases_Bool)

-- and they are n at least, if n pass
pub newest_at_least : (p : Record → Bool) (n : ℕ) (rs : List Record) → IsInOrder id_before rs → n ≤ count_by p rs → n ≤ count_by (λ r. p r && not (leb n (later p r rs))) rs
newest_at_least p n [] a h = h
newest_at_least p n (x ∷ xs) a h =
    let test : Record → Bool = λ r. p r && not (leb n (later p r (x ∷ xs))) in
    let test_rest : Record → Bool = λ r. p r && not (leb n (later p r xs)) in
    let tail : count_by test xs ≡ count_by test_rest xs =
    count_by-same test test_rest xs (λ r h. let less = ltb-true x.id r.id (ComesBefore-at id_before x r xs a.0 h) in rw (later_rest p x r xs (omega arith)) refl) in
    let all : count_by p xs < n → count_by test_rest xs ≡ count_by p xs = λ few. count_by-same test_rest p xs (λ r h. few_later p n r xs few) in
    grind (arith, common_steps, newest_at_least p n xs a.1, leb-false, count_by_yes, later_first, count_by_no, cases_Bool, all)
