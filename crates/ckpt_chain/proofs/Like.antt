-- What a receipt says in one state it says in each that differs in the order of the fetched files alone.
use Rattle.ckpt_chain.proofs.Names.{◌≡◌, ℕ, Bool, not, ◌||◌, List, [], ◌∷◌, ◌++◌, refl, sym, ap, ◌∙◌, filter, Some, Call, Ack, Answer, Record, is_present, uses, filter-same, AreAlike, along}
use Rattle.ckpt_chain.proofs.Names.{registered_as, registered_by, State, is_known, record_of, step, go_on_alike, FencedCall, Make, Machine, Fenced, fenced_step, passed, core_in}
use Rattle.ckpt_chain.proofs.Names.{AreFencedAlike, settled_outbox, goes_on_alike, Event, Fence, Named, Plain, event_step, reached, Receipt, AreMachinesAlike, alike_named, same_core}
use Rattle.ckpt_chain.proofs.Names.{step_alike, registered_in, Completes, Restores, answered, its_answer}
use Rattle.ckpt_model.specs.Images.{settled}
use Rattle.ckpt_terms.specs.declared.machine.Machine.TheVariants as machine

layer_answer : (m n : Fenced) (call : FencedCall) → AreFencedAlike m n → (fenced_step m call).1 ≡ (fenced_step n call).1
layer_answer m n call e = let answers = (goes_on_alike m n (call ∷ []) e).answers in cc answers

core_answer : (m n : State) (call : Call) → AreAlike m n → (step m call).1 ≡ (step n call).1
core_answer m n call e = let answers = (go_on_alike m n (call ∷ []) e).answers in cc answers

same_layer : (m n : Fenced) (call : FencedCall) → AreFencedAlike m n → its_answer (fenced_step m call).1 ≡ its_answer (fenced_step n call).1
same_layer m n call e = ap its_answer (layer_answer m n call e)

same_answer : (m n : Machine) (event : Event) → AreMachinesAlike m n → answered m event ≡ answered n event
same_answer (machine.Plain m) (machine.Plain n) (Plain call) e = ap (λ (a : Answer). Some a) (core_answer m n call (ap core_in e))
same_answer (machine.Plain m) (machine.Plain n) (Named call) e = refl
same_answer (machine.Fenced m) (machine.Fenced n) (Plain call) e = same_layer m n (Make 0 call) (alike_named m n e)
same_answer (machine.Fenced m) (machine.Fenced n) (Named call) e = same_layer m n call (alike_named m n e)
same_answer (machine.Plain m) (machine.Fenced n) event e = absurd cc
same_answer (machine.Fenced m) (machine.Plain n) event e = absurd cc
same_answer m n (Fence first) e = refl

-- the receipt, in this state
abbrev pub moved : Receipt → Machine → Receipt
moved r state = record { state = state; entry = r.entry }

pub same_record : (m n : Machine) (id : ℕ) → AreMachinesAlike m n → record_of (core_in m) id ≡ record_of (core_in n) id
same_record m n id e = ap (λ (k : State). record_of k id) (same_core m n e)

pub completes_like : (r : Receipt) (state : Machine) (id : ℕ) → AreMachinesAlike r.state state → Completes r id → Completes (moved r state) id
completes_like r state id e c = record {
  event = c.event;
  entry = c.entry;
  now = c.now;
  part = c.part;
  asked = c.asked;
  dropped = c.dropped;
  released = c.released;
  told = sym (same_answer r.state state c.event e) ∙ c.told;
  checkpoint = λ (one : Record) found. c.checkpoint one (same_record (event_step r.state c.event) (event_step state c.event) id (step_alike r.state state c.event e) ∙ found);
}

pub restores_like : (r : Receipt) (state : Machine) (n : ℕ) → AreMachinesAlike r.state state → Restores r n → Restores (moved r state) n
restores_like r state n e c = record {
  event = c.event;
  entry = c.entry;
  now = c.now;
  shape = c.shape;
  asked = c.asked;
  chosen = c.chosen;
  released = c.released;
  told = sym (same_answer r.state state c.event e) ∙ c.told;
  is_this = c.is_this;
}

-- and the same files are registered

same_reached : (m n : Machine) (event : Event) → AreMachinesAlike m n → reached m event ≡ reached n event
same_reached (machine.Plain m) (machine.Plain n) (Plain call) e = refl
same_reached (machine.Plain m) (machine.Plain n) (Named call) e = refl
same_reached (machine.Fenced m) (machine.Fenced n) (Plain call) e = ap (passed (Make 0 call)) (layer_answer m n (Make 0 call) (alike_named m n e))
same_reached (machine.Fenced m) (machine.Fenced n) (Named call) e = ap (passed call) (layer_answer m n call (alike_named m n e))
same_reached (machine.Plain m) (machine.Fenced n) event e = absurd cc
same_reached (machine.Fenced m) (machine.Plain n) event e = absurd cc
same_reached m n (Fence first) e = refl

same_known : (m n : State) (f : ℕ) → AreAlike m n → is_known m f ≡ is_known n f
same_known m n f e = sym (known_settled m f) ∙ ap (λ (k : State). is_known k f) e ∙ known_settled n f
  where
    known_settled : (m : State) (f : ℕ) → is_known (settled m) f ≡ is_known m f
    known_settled m f = ap (λ (out : Bool). is_present (uses m.records) f || out) (settled_outbox m f)

same_registered : (m n : State) (call : Call) → AreAlike m n → registered_by m call ≡ registered_by n call
same_registered m n (Ack now id subtask fresh reused) e =
    ap (λ (a : Answer). registered_as a fresh (filter (λ f. not (is_known m f)) fresh)) (core_answer m n (Ack now id subtask fresh reused) e)
    ∙ ap (registered_as (step n (Ack now id subtask fresh reused)).1 fresh)
    (filter-same (λ f. not (is_known m f)) (λ f. not (is_known n f)) fresh (λ f has. ap not (same_known m n f e)))
same_registered m n call e = refl

along_alike : (m n : State) (calls : List Call) → AreAlike m n → along registered_by m calls ≡ along registered_by n calls
along_alike m n [] e = refl
along_alike m n (call ∷ calls) e =
    ap (λ (files : List ℕ). files ++ along registered_by (step m call).0 calls) (same_registered m n call e)
    ∙ ap (λ (files : List ℕ). registered_by n call ++ files) (along_alike (step m call).0 (step n call).0 calls (go_on_alike m n (call ∷ []) e).state)

pub same_registered_in : (m n : Machine) (event : Event) → AreMachinesAlike m n → registered_in m event ≡ registered_in n event
same_registered_in m n event e =
    ap (λ (calls : List Call). along registered_by (core_in m) (calls ++ [])) (same_reached m n event e)
    ∙ along_alike (core_in m) (core_in n) (reached n event ++ []) (same_core m n e)
