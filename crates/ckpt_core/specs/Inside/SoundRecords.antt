-- The tests of one record more for sound records.
use Rattle.std.specs.Prelude.{◌≡◌, ℕ, ◌<◌, ◌≤◌, true, not, List, [], ◌∷◌, ◌++◌, count_by}
use Rattle.ckpt_ids.specs.declared.limits.TheConstants.{MOMENTS_END, MOST_SAVEPOINTS}
use Rattle.ckpt_ids.specs.declared.ack.Acked.{Acked}
use Rattle.ckpt_ids.specs.Ascending.{IsAscendingSet}
use Rattle.ckpt_ids.specs.Ordered.{IsIn}
use Rattle.ckpt_ids.specs.Records.{Record}
use Rattle.ckpt_rules.specs.Trigger.{limit}
use Rattle.ckpt_model.specs.State.{Opening, is_checkpoint, is_done_checkpoint}
use Rattle.ckpt_model.specs.Soundness.{IsRecord, AreSoundRecords, is_pending_checkpoint}

-- what is tested of the next record of an image
pub record Joins (o : Opening) (next : ℕ) (rs : List Record) (r : Record) : Type 0 where
  pub above : (s : Record) → IsIn s rs → s.id < r.id
  pub from_first : o.first ≤ r.id
  pub below_next : r.id < next
  pub is_record : IsRecord r
  pub started : r.started < MOMENTS_END
  pub retained : is_done_checkpoint r ≡ true → count_by is_done_checkpoint rs < o.config.retained
  pub at_once : is_pending_checkpoint r ≡ true → count_by is_pending_checkpoint rs < limit o.config
  pub savepoints : not (is_checkpoint r) ≡ true → count_by (λ s. not (is_checkpoint s)) rs < MOST_SAVEPOINTS
  pub newer : is_done_checkpoint r ≡ true → count_by is_pending_checkpoint rs ≡ 0

-- sound records stay sound with one that joins them
abbrev pub JoinedAreSound : Type 0
JoinedAreSound =
    (o : Opening) (next : ℕ) (rs : List Record) (r : Record)
    → AreSoundRecords o next rs
    → Joins o next rs r
    → AreSoundRecords o next (rs ++ r ∷ [])

-- the last of sound records joins those before it
abbrev pub LastJoins : Type 0
LastJoins = (o : Opening) (next : ℕ) (rs : List Record) (r : Record) → AreSoundRecords o next (rs ++ r ∷ []) → Joins o next rs r

-- the first of sound records are sound
abbrev pub FrontIsSound : Type 0
FrontIsSound = (o : Opening) (next : ℕ) (xs ys : List Record) → AreSoundRecords o next (xs ++ ys) → AreSoundRecords o next xs

-- what is tested of it by how many there are
pub record HasRoom (o : Opening) (rs : List Record) (r : Record) : Type 0 where
  pub retained : is_done_checkpoint r ≡ true → count_by is_done_checkpoint rs < o.config.retained
  pub at_once : is_pending_checkpoint r ≡ true → count_by is_pending_checkpoint rs < limit o.config
  pub savepoints : not (is_checkpoint r) ≡ true → count_by (λ s. not (is_checkpoint s)) rs < MOST_SAVEPOINTS
  pub newer : is_done_checkpoint r ≡ true → count_by is_pending_checkpoint rs ≡ 0

-- what is tested of its files
pub record NamesEachOnce (r : Record) : Type 0 where
  pub files : (a : Acked) → IsIn a r.acks → IsAscendingSet a.files
  pub pins : IsAscendingSet r.pins
