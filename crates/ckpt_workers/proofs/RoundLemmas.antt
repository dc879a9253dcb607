-- A round, file by file.
use Rattle.ckpt_workers.proofs.Names.{Answer, Bool, Fate, Hand, IsDiscarded, IsReported, IsTried, List, None, Option, Round, Some, Stored, [], ap, append-nil, append_assoc, arith, cond, count_by_push}
use Rattle.ckpt_workers.proofs.Names.{deleted_in, drop, drop_more, false, filter-append, gone_in, length, map-append, not, refl, report_of, slice_get, sym, true, ℕ, ◌++◌, ◌+◌, ◌<◌, ◌∙◌, ◌∷◌, ◌≡◌, ◌≢◌}
use Rattle.ckpt_workers.proofs.Names.{◌≤◌}
use Rattle.ckpt_workers.proofs.ShiftLemmas.{IsShift-none, IsShift-push}
use Rattle.ckpt_workers.proofs.TallyLemmas.{opposite}
use Rattle.ckpt_locked.specs.Locks.{Made}
use Rattle.std.proofs.lemmas.Option.{get_or_from_slice_get, slice_get_within}

abbrev pub round : ℕ → ℕ → ℕ → List ℕ → Bool → Bool → Round
round taken deleted failed left gone memory = record { taken = taken; deleted = deleted; failed = failed; left = left; gone = gone; memory = memory }

-- the state of the files before the first is tried
pub IsReported-none : (files : List ℕ) (gone : Bool) (stored : Stored) (hand : Hand) → (gone ≡ true → files ≢ [])
    → IsReported files gone stored stored hand hand (round (length files) 0 0 files gone false)
IsReported-none files gone stored hand some = record {
  fates = [];
  files_are = refl;
  told = [];
  shift = IsShift-none hand;
  calls_are = refl;
  gained = [];
  storage_is = sym (append-nil stored.deleted);
  gained_is = append-nil (gone_in gone files);
  taken_is = refl;
  deleted_is = refl;
  failed_is = refl;
  failures = omega arith;
  memory_left = λ e. absurd cc;
  gone_left = some;
}

-- the files that storage's list gains by a try
tried_gain : (file : ℕ) (rest : List ℕ) (gone deleted : Bool) (before after : Stored) → IsTried file gone before after deleted
    → (more : List ℕ) × (after.deleted ≡ before.deleted ++ more) × (gone_in gone (file ∷ rest) ++ more ≡ gone_in deleted (file ∷ rest))
tried_gain file rest true deleted before after t = ([], ap (λ (s : Stored). s.deleted) t.1 ∙ sym (append-nil before.deleted), ap (λ d. gone_in d (file ∷ rest)) (sym t.0))
tried_gain file rest false true before after t = (file ∷ [], t.0, refl)
tried_gain file rest false false before after t = ([], t.0 ∙ sym (append-nil before.deleted), refl)

tried_failures : (file : ℕ) (gone deleted : Bool) (before after : Stored) → IsTried file gone before after deleted → before.failures + cond deleted 0 1 ≤ after.failures
tried_failures file true deleted before after t = rw (t.0, t.1) (omega arith)
tried_failures file false true before after t = let h : before.failures ≤ after.failures = t.1 in omega arith
tried_failures file false false before after t = let h : before.failures < after.failures = t.1 in omega arith

deleted_push : (fates : List Fate) (file : ℕ) (rest : List ℕ) (deleted : Bool)
    → deleted_in fates ++ gone_in deleted (file ∷ rest) ≡ deleted_in (fates ++ record { file = file; deleted = deleted } ∷ []) ++ []
deleted_push fates file rest true = simp (append-nil, filter-append, map-append)
deleted_push fates file rest false = simp (append-nil, filter-append, map-append)

-- a file was tried
module _ (files rest : List ℕ) (file : ℕ) (first gone deleted : Bool) (before mid after : Stored) (old hand : Hand) (n d f : ℕ)
    (h : IsReported files first before mid old hand (round n d f (file ∷ rest) gone false)) (tried : IsTried file gone mid after deleted) where
  abbrev gained : List ℕ
  gained = h.gained ++ (tried_gain file rest gone deleted mid after tried).0

  stored_more : after.deleted ≡ before.deleted ++ gained
  stored_more = let gain = tried_gain file rest gone deleted mid after tried in gain.1 ∙ ap (λ l. l ++ gain.0) h.storage_is ∙ append_assoc before.deleted h.gained gain.0

  gained_more : gone_in first files ++ gained ≡ deleted_in h.fates ++ gone_in deleted (file ∷ rest)
  gained_more =
      let gain = tried_gain file rest gone deleted mid after tried in
      sym (append_assoc (gone_in first files) h.gained gain.0) ∙ ap (λ l. l ++ gain.0) h.gained_is ∙ append_assoc (deleted_in h.fates) (gone_in gone (file ∷ rest)) gain.0
      ∙ ap (λ l. deleted_in h.fates ++ l) gain.2

  -- its report ran out of memory
  pub IsReported-stop : IsReported files first before after old hand (round n d f (file ∷ rest) deleted true)
  IsReported-stop = record {
    fates = h.fates;
    files_are = h.files_are;
    told = h.told;
    shift = h.shift;
    calls_are = h.calls_are;
    gained = gained;
    storage_is = stored_more;
    gained_is = gained_more;
    taken_is = h.taken_is;
    deleted_is = h.deleted_is;
    failed_is = h.failed_is;
    failures = omega (arith, h.failures, tried_failures file gone deleted mid after tried);
    memory_left = λ _ none. absurd cc;
    gone_left = λ _ none. absurd cc;
  }

  -- it was reported
  pub IsReported-next : (new : Hand) (answer : Answer) → Made hand (report_of file deleted) new answer
      → IsReported files first before after old new (round n (d + cond deleted 1 0) (f + cond deleted 0 1) rest false false)
  IsReported-next new answer made =
      let x : Fate = record { file = file; deleted = deleted } in
      record {
        fates = h.fates ++ x ∷ [];
        files_are = h.files_are ∙ rw (map-append, append_assoc);
        told = h.told ++ record { call = report_of file deleted; answer = answer } ∷ [];
        shift = IsShift-push old h.told hand (report_of file deleted) answer new h.shift made;
        calls_are = simp map-append (ap (λ l. l ++ report_of file deleted ∷ []) h.calls_are);
        gained = gained;
        storage_is = stored_more;
        gained_is = gained_more ∙ deleted_push h.fates file rest deleted;
        taken_is = h.taken_is;
        deleted_is = omega (arith, h.deleted_is, count_by_push (λ (y : Fate). y.deleted) h.fates x);
        failed_is = omega (arith, h.failed_is, count_by_push (λ (y : Fate). not y.deleted) h.fates x, opposite deleted);
        failures = omega (arith, h.failures, tried_failures file gone deleted mid after tried);
        memory_left = λ e. absurd cc;
        gone_left = λ e. absurd cc;
      }

-- the file at this place is the first of those that are left
pub drop_at : (files : List ℕ) (place file : ℕ) → slice_get files place ≡ Some file → drop place files ≡ file ∷ drop (place + 1) files
drop_at files place file at =
    drop_more files place file (slice_get_within files place file at) ∙ ap (λ f. f ∷ drop (place + 1) files) (get_or_from_slice_get files place file file at)

-- a discarder's round can be resumed
pub can_resume : (most : ℕ) (before after : Stored) (old new : Hand) (round : Round) (answer : Option Answer)
    → IsDiscarded most before after old new round answer → round.gone ≡ true → round.left ≢ []
can_resume most before after old new round None is e = let not_gone : round.gone ≡ false = ap (λ (r : Round). r.gone) is.2 in absurd cc
can_resume most before after old new round (Some answer) is e = is.2.gone_left e
