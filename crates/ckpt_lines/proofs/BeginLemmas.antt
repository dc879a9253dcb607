-- What a text with a keyword and a space at its start says.
use Rattle.ckpt_lines.proofs.Names.{◌≡◌, ℕ, List, ◌∷◌, ◌++◌, Option, Some, None, ap, ◌∙◌, refl, IfNone, Keyword, Tick, Savepoint, Ack, Dispose, Take, Deleted, Undeleted, Count, spelling, BeginsWith}
use Rattle.ckpt_lines.proofs.Names.{BeginsWithNone, is_long, is_recognized, words_of, common_steps, arith}

-- the keyword is the first word
spelled : (first : Keyword) (rest : List ℕ) → words_of (spelling first ++ 32 ∷ rest) ≡ spelling first ∷ words_of rest
spelled first rest = grind (arith, common_steps)

pub words_of-begin : (text : List ℕ) (first : Keyword) (rest : List ℕ) → BeginsWith text first rest → words_of text ≡ spelling first ∷ words_of rest
words_of-begin text first rest begins = ap words_of begins ∙ spelled first rest

-- a text that begins with neither of these two begins with no long keyword
pub no_long : (text : List ℕ) → ((rest : List ℕ) → BeginsWith text Savepoint rest → ⊥) → ((rest : List ℕ) → BeginsWith text Undeleted rest → ⊥) → BeginsWithNone is_long text
no_long text savepoint undeleted Savepoint rest is begins = savepoint rest begins
no_long text savepoint undeleted Undeleted rest is begins = undeleted rest begins
no_long text savepoint undeleted _ rest is begins = absurd cc

-- a text that begins with none of these six, and with none of the long ones if that was tried last, begins with no recognized keyword
pub none_begins : {X : Type 0} (text : List ℕ) (result : Option X) → IfNone result (BeginsWithNone is_long text)
    → ((rest : List ℕ) → BeginsWith text Tick rest → ⊥) → ((rest : List ℕ) → BeginsWith text Ack rest → ⊥) → ((rest : List ℕ) → BeginsWith text Take rest → ⊥)
    → ((rest : List ℕ) → BeginsWith text Deleted rest → ⊥) → ((rest : List ℕ) → BeginsWith text Dispose rest → ⊥) → ((rest : List ℕ) → BeginsWith text Count rest → ⊥)
    → IfNone result (BeginsWithNone is_recognized text)
none_begins text (Some x) long tick ack take deleted dispose count = tt
none_begins text None long tick ack take deleted dispose count = by
  where
    by : BeginsWithNone is_recognized text
    by Tick rest is begins = tick rest begins
    by Ack rest is begins = ack rest begins
    by Take rest is begins = take rest begins
    by Deleted rest is begins = deleted rest begins
    by Dispose rest is begins = dispose rest begins
    by Count rest is begins = count rest begins
    by Savepoint rest is begins = long Savepoint rest refl begins
    by Undeleted rest is begins = long Undeleted rest refl begins
    by _ rest is begins = absurd cc
