-- A coordinator with or without names may cross threads.
use Rattle.ckpt_terms.proofs.Imports.{fields, IsSend, AllSend, sendable, view_send, crosses, declared_send, core_send}
use Rattle.ckpt_terms.specs.contracts.names.Names as Names
use Rattle.ckpt_terms.specs.contracts.terms.Terms as Terms
use Rattle.ckpt_terms.specs.contracts.terms.Terms.TheInside as InTerms
use Rattle.ckpt_terms.specs.contracts.machine.Machine as Machine

names_send : IsSend Names.the_row
names_send = search (sendable, crosses) depth 80 fits 20000

terms_fields : AllSend (fields InTerms.the_type)
terms_fields = search (core_send, names_send, sendable, crosses) depth 80 fits 20000

terms_send : IsSend Terms.the_row
terms_send = view_send _ _ _ _ _ (declared_send InTerms.the_type terms_fields)

pub machine_send : IsSend Machine.the_row
machine_send = search (core_send, terms_send, sendable, crosses) depth 80 fits 20000
