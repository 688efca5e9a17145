use Rattle.std.proofs.Common.{◌∙◌, ap, sym, subst}
use Rattle.std.specs.Prelude.{filter_map, unwrap_or}
use Rattle.std.specs.List.{list_any}
use Rattle.lp_calculus.specs.Types.{var}
use Rattle.lp_code.specs.Operands.{types_read}
use Rattle.lp_code.specs.Symbolic.{type_in, types_in}
use Rattle.lp_verify.specs.Held.{value_in, is_lacking}
use Rattle.lp_verify.specs.inner.FirstNumbers.{IsType}
use Rattle.lp_verify.specs.inner.Indices.{store}
use Rattle.lp_verify.specs.inner.Known.{makes_own_type}
use Rattle.lp_verify.specs.inner.Made.{type_made}
use Rattle.lp_verify.proofs.TermsMade.{type_known, types_known}
use Rattle.lp_verify.proofs.Instructions.{no_type_made}
use Rattle.lp_verify.proofs.record.Work.built_type.Goals as goal

pub returns-in_ok-of-in-TyCon-clause-made : goal.returns-in_ok-of-in-TyCon-clause-made
returns-in_ok-of-in-TyCon-clause-made c = λ l h s k set own.
    let m = store c.args.types.now l in
    let w = c.args.self.now in
    let y = c.con.new.self in
    let e = c.in-TyCon.is in
    let ds = c.in-TyCon.parts.items in
    let set_there = ap (λ i. list_any (is_lacking w.types) (types_read i)) (sym e) ∙ set in
    subst (λ i. IsType y c.in_ok-of-in-TyCon.of (type_made h s i)) (sym e) (c.in_ok-of-in-TyCon.ensures.made k.of_head.constants.basics.firsts
    (types_in s.now ds) (types_known m w h s ds c.as_slice-in-TyCon.result.now k
    (c.as_slice-in-TyCon.ensures.value ∙ c.in_ok-parts-in-TyCon.ensures ∙ ap (filter_map (value_in w.types)) c.as_slice.ensures.value) set_there))

pub returns-in_ok-of-in-TyArr-clause-made : goal.returns-in_ok-of-in-TyArr-clause-made
returns-in_ok-of-in-TyArr-clause-made c = λ l h s k set own.
    let m = store c.args.types.now l in
    let w = c.args.self.now in
    let y = c.arrow.new.self in
    let a = type_known m w h s c.in-TyArr.from c.type_in-from.result k c.type_in-from.ensures in
    let b = type_known m w h s c.in-TyArr.to c.type_in-to.result k c.type_in-to.ensures in
    subst (λ i. IsType y c.in_ok-of-in-TyArr.of (type_made h s i)) (sym c.in-TyArr.is) (c.in_ok-of-in-TyArr.ensures.made (type_in s.now c.in-TyArr.from) (type_in s.now c.in-TyArr.to) a b)

pub returns-in_ok-of-in-TyNew-clause-made : goal.returns-in_ok-of-in-TyNew-clause-made
returns-in_ok-of-in-TyNew-clause-made c = λ l h s k set own.
    let y = c.var.new.self in
    let e = c.in-TyNew.is in
    let n = c.unwrap_or-number.ensures ∙ ap (λ o. unwrap_or o 0) (c.copied.ensures ∙ c.get.ensures.value ∙ k.of_head.own c.in-TyNew.made (ap (makes_own_type h.self) (sym e) ∙ own)) in
    subst (λ i. IsType y c.in_ok-of-in-TyNew.of (type_made h s i)) (sym e) (subst (λ n. IsType y c.in_ok-of-in-TyNew.of (var n)) n (c.in_ok-of-in-TyNew.ensures.made k.of_head.constants.basics.firsts))

pub returns-in_default-clause-made : goal.returns-in_default-clause-made
returns-in_default-clause-made c = λ l h s k set own. subst (IsType c.args.types.now c.args.types.now.proposition) (sym (no_type_made c.args.instr.now h s c.in_default.not-TyCon c.in_default.not-TyArr c.in_default.not-TyNew)) k.of_head.constants.basics.proposition
