-- Answers the goals of `records_value`.
use Rattle.ckpt_image.proofs.{◌≡◌, List, [], ◌∷◌, map, refl, ap, ◌∙◌, take_all, Saved, record_in, IsIn-from_map, array, items_of, RecordFits, record_data, each-more, each-whole, views-more}
use Rattle.ckpt_image.proofs.writing.records_value.Goals as goal

pub loop-saved-preserved : goal.loop-saved-preserved
loop-saved-preserved c =
    let records = c.args.records.now in
    record {
      written = views-more (λ s. record_data (record_in s)) records c.loop-saved.saved-index c.saved-item.result _ _ c.in_ok-record_value.field-0 c.loop-saved-test.true
          c.saved-item.is c.loop-saved.invariant.written c.in_ok-push.ensures.items c.in_ok-record_value.ensures.value;
      fit = each-more (λ s. RecordFits (record_in s)) records c.loop-saved.saved-index c.saved-item.result c.loop-saved-test.true c.saved-item.is c.loop-saved.invariant.fit
          c.in_ok-record_value.ensures.fits;
    }

in_two : (records : List Saved) → map (λ s. record_data (record_in s)) records ≡ map record_data (map record_in records)
in_two [] = refl
in_two (s ∷ records) = ap (λ ds. record_data (record_in s) ∷ ds) (in_two records)

pub returns-clause-value : goal.returns-clause-value
returns-clause-value c =
    let whole = c.loop-saved.invariant.written ∙ ap (map (λ s. record_data (record_in s))) (take_all c.loop-saved.saved-index c.args.records.now c.loop-saved-test.false)
    ∙ in_two c.args.records.now in
    c.from.ensures ∙ ap (λ ds. array (items_of ds)) whole

pub returns-clause-fits : goal.returns-clause-fits
returns-clause-fits c r there =
    let p = IsIn-from_map record_in r c.args.records.now there in
    rw p.2 (each-whole (λ s. RecordFits (record_in s)) c.args.records.now c.loop-saved.saved-index c.loop-saved-test.false c.loop-saved.invariant.fit p.0 p.1)
