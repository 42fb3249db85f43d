use Rattle.std.proofs.Common.{ℕ, ◌≡◌, ap, List, ◌∷◌, []}
use Rattle.sb_world.specs.Calls.{fault_of}
use Rattle.sb_world.specs.declared.link.Call.TheVariants as call
use Rattle.std.specs.Prelude.{Option, None}
use Rattle.sb_world.specs.declared.link.LinkFault.{LinkFault}
use Rattle.sb_names.specs.Names.{digits_of}
use Rattle.sb_tools.specs.Tokens.{refusal_by}
use Rattle.sb_tools.proofs.Gaining.{gains_join, gains_as}
use Rattle.sb_tools.proofs.Taking.{follows_free, follows_refused}
use Rattle.sb_tools.proofs.token.take_named.Goals as goal

pub returns-in-Ok-clause-told : goal.returns-in-Ok-clause-told
returns-in-Ok-clause-told g c =
    let looked = c.in-Ok.ensures.told in
    let asked = call.Get c.args.name.now None looked.are.reply in
    let put = λ (failure : Option LinkFault). call.Put c.args.name.now (digits_of c.args.value) None failure in
    let same : call.Put c.args.name.now c.digits.result None (fault_of c.put.result) ∷ [] ≡ put (fault_of c.put.result) ∷ [] =
    ap (λ (body : List ℕ). call.Put c.args.name.now body None (fault_of c.put.result) ∷ []) c.digits.ensures in
    record {
      calls = put (fault_of c.put.result) ∷ asked ∷ [];
      gained = gains_join (gains_as looked.are.asked looked.gained) (gains_as same c.put.ensures.told);
      are = record {
        reply = looked.are.reply;
        follows = follows_free (refusal_by c.args.force looked.are.reply) looked.are.answer asked put c.answer_by.result
            (fault_of c.put.result) c.answer_by.ensures;
      };
    }

pub returns-in-Err-clause-told : goal.returns-in-Err-clause-told
returns-in-Err-clause-told g c =
    let looked = c.in-Err.ensures.told in
    let asked = call.Get c.args.name.now None looked.are.reply in
    record {
      calls = asked ∷ [];
      gained = gains_as looked.are.asked looked.gained;
      are = record {
        reply = looked.are.reply;
        follows = follows_refused (refusal_by c.args.force looked.are.reply) c.in-Err.fault looked.are.answer asked
            (call.Put c.args.name.now (digits_of c.args.value) None);
      };
    }
