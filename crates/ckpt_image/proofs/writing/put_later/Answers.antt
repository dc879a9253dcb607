-- Answers the goals of `put_later`.
use Rattle.ckpt_image.proofs.{map, subst, List, Saved, record_in, IsIn, Record, RecordFits, on_any_ok}
use Rattle.ckpt_image.proofs.writing.put_later.Goals as goal

pub returns-clause-records : goal.returns-clause-records
returns-clause-records c =
    on_any_ok c.put-4.result _ (subst (λ (saved : List Saved). (r : Record) → IsIn r (map record_in saved) → RecordFits r) c.as_slice.ensures.value c.in_ok-records_value.ensures.fits)
