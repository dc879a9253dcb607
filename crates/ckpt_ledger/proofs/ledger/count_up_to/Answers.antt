-- Answers the goals of `count_up_to`.
use Rattle.std.proofs.Common.{◌≡◌, ◌∙◌, ℕ, ap, drop, is_gt, nat_cmp, sym, take}
use Rattle.ckpt_ledger.proofs.Counting.{count_of, counted_all, counted_back, counted_front, counted_to}
use Rattle.ckpt_ledger.proofs.ledger.count_up_to.Goals as goal

later : (c : goal.Then-gt) → c.loop-transaction.count ≡ count_of c.args.id c.args.waiting.now
later c =
    c.loop-transaction.invariant.0
    ∙ sym (counted_to c.args.id c.loop-transaction.transaction-index c.args.waiting.now c.transaction-item.result c.transaction-item.is c.loop-transaction-test.true
    (sym c.if-gt.true ∙ c.gt.ensures ∙ ap (λ (k : ℕ). is_gt (nat_cmp k c.args.id)) c.id.ensures) c.loop-transaction.invariant.1)

all : (c : goal.After-loop-transaction) → c.loop-transaction.count ≡ count_of c.args.id c.args.waiting.now
all c =
    c.loop-transaction.invariant.0
    ∙ sym (counted_all c.args.id c.loop-transaction.transaction-index c.args.waiting.now c.loop-transaction-test.false c.loop-transaction.invariant.1)

pub returns-then-gt-clause-front : goal.returns-then-gt-clause-front
returns-then-gt-clause-front c = ap (λ (k : ℕ). take k c.args.waiting.now) (later c) ∙ counted_front c.args.id c.args.waiting.now

pub returns-then-gt-clause-back : goal.returns-then-gt-clause-back
returns-then-gt-clause-back c = ap (λ (k : ℕ). drop k c.args.waiting.now) (later c) ∙ counted_back c.args.id c.args.waiting.now

pub returns-clause-front : goal.returns-clause-front
returns-clause-front c = ap (λ (k : ℕ). take k c.args.waiting.now) (all c) ∙ counted_front c.args.id c.args.waiting.now

pub returns-clause-back : goal.returns-clause-back
returns-clause-back c = ap (λ (k : ℕ). drop k c.args.waiting.now) (all c) ∙ counted_back c.args.id c.args.waiting.now
