-- Answers the goals of `acks_value`.
use Rattle.ckpt_image.proofs.{AckFits, ack_data, each-more, each-whole, views-more}
use Rattle.ckpt_image.proofs.writing.acks_value.Goals as goal

pub loop-acked-preserved : goal.loop-acked-preserved
loop-acked-preserved c =
    let acks = c.as_slice-acked-items.result.now in
    record {
      written = views-more ack_data acks c.loop-acked.acked-index c.acked-item.result _ _ c.in_ok-ack_value.field-0 c.loop-acked-test.true c.acked-item.is c.loop-acked.invariant.written
          c.in_ok-push.ensures.items c.in_ok-ack_value.ensures.value;
      fit = each-more AckFits acks c.loop-acked.acked-index c.acked-item.result c.loop-acked-test.true c.acked-item.is c.loop-acked.invariant.fit c.in_ok-ack_value.ensures.fits;
    }

pub returns-clause-fits : goal.returns-clause-fits
returns-clause-fits c =
    rw (← c.as_slice-acked-items.ensures.acks) (each-whole AckFits c.as_slice-acked-items.result.now c.loop-acked.acked-index c.loop-acked-test.false c.loop-acked.invariant.fit)
