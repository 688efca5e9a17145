use Rattle.std.proofs.Common.{◌≡◌, ◌+◌, ◌∙◌, sym, ap, subst, length, arith}
use Rattle.std.specs.Prelude.{All, MatchOption}
use Rattle.lp_calculus.specs.Types.{var}
use Rattle.lp_type_laws.specs.Equations.{IsMostGeneral, HaveNoSolution}
use Rattle.lp_term.specs.Nodes.{type_tree}
use Rattle.lp_type_unify.specs.Reading.{reads, read_pairs, IsPair}
use Rattle.lp_infer.specs.Postfix.{IsStep}
use Rattle.lp_infer.specs.Formulas.{HasTypes, wanted_types}
use Rattle.lp_infer.specs.inner.Parts.{HaveParts, HaveOpen, IsShallow, all_arguments}
use Rattle.lp_infer.proofs.Joining.{is_made, none_typed, is_typed}
use Rattle.lp_infer.proofs.Parts.{all_shallow}
use Rattle.lp_infer.proofs.Needs.{looked_parts, looked_open, wanted_many}
use Rattle.lp_infer.proofs.infer.typed.Goals as goal

pub returns-in-None-clause-typed : goal.returns-in-None-clause-typed
returns-in-None-clause-typed c = λ raw L.
    let text = c.args.text in
    let t = c.in_ok-typing.typing in
    let next : length c.args.source.now + c.len.result ≡ length c.args.source.now + length text.notes.places.items = omega (arith, c.len.ensures, text.notes.places.ok) in
    let made = is_made c.args.signature.now c.args.source.now text t c.as_slice.result.now c.len-2.result (length c.args.source.now + c.len.result)
    (c.in_ok-typing.ensures (subst (All (IsStep (length text.types.types))) (sym c.as_slice.ensures.value) L.known) c.args.source.now) c.as_slice.ensures.value (omega (arith, c.len-2.ensures, text.variables.places.ok)) next in
    let none = subst (λ o. MatchOption o (HaveNoSolution (read_pairs (type_tree t.types) var c.as_slice-2.result.now)) (λ b. IsMostGeneral (read_pairs (type_tree t.types) var c.as_slice-2.result.now) (reads t.types b.made))) c.in-None.is c.in_ok-unify.ensures.solved in
    none_typed c.args.signature.now c.args.source.now raw text L t made (subst (λ ps. HaveNoSolution (read_pairs (type_tree t.types) var ps)) c.as_slice-2.ensures.value none)

pub returns-clause-typed : goal.returns-clause-typed
returns-clause-typed c = λ raw L.
    let text = c.args.text in
    let t = c.in_ok-typing.typing in
    let bound = c.in-Some.bindings.made in
    let bank = c.read_off.new.bank in
    let formula = c.in_ok-formula-in-Some.formula in
    let next : length c.args.source.now + c.len.result ≡ length c.args.source.now + length text.notes.places.items = omega (arith, c.len.ensures, text.notes.places.ok) in
    let made = is_made c.args.signature.now c.args.source.now text t c.as_slice.result.now c.len-2.result (length c.args.source.now + c.len.result)
    (c.in_ok-typing.ensures (subst (All (IsStep (length text.types.types))) (sym c.as_slice.ensures.value) L.known) c.args.source.now) c.as_slice.ensures.value (omega (arith, c.len-2.ensures, text.variables.places.ok)) next in
    let general = subst (λ o. MatchOption o (HaveNoSolution (read_pairs (type_tree t.types) var c.as_slice-2.result.now)) (λ b. IsMostGeneral (read_pairs (type_tree t.types) var c.as_slice-2.result.now) (reads t.types b.made))) c.in-Some.is c.in_ok-unify.ensures.solved in
    is_typed c.args.signature.now c.args.source.now raw text L t made bound bank formula (subst (λ ps. IsMostGeneral (read_pairs (type_tree t.types) var ps) (reads t.types bound)) c.as_slice-2.ensures.value general)
    (subst (λ ps. HasTypes c.args.source.now text.steps.items ps (wanted_types t bound) bank formula) c.as_slice-in-Some-2.ensures.value
    (subst (λ ss. HasTypes c.args.source.now ss c.as_slice-in-Some-2.result.now (wanted_types t bound) bank formula) c.as_slice-in-Some.ensures.value c.in_ok-formula-in-Some.ensures.types))

pub unify-requires : goal.unify-requires
unify-requires c =
    let text = c.args.text in
    subst (All (IsPair (length c.in_ok-typing.typing.types.types))) (sym c.as_slice-2.ensures.value)
    (c.in_ok-typing.ensures (subst (All (IsStep (length text.types.types))) (sym c.as_slice.ensures.value) c.requires.1.known) c.args.source.now).pairs

pub equations_of-requires-clause-count : goal.equations_of-requires-clause-count
equations_of-requires-clause-count c = let places = c.args.text.variables.places in omega (arith, c.len-2.ensures, places.ok, places.small)

pub equations_of-requires-clause-known : goal.equations_of-requires-clause-known
equations_of-requires-clause-known c = subst (All (IsStep (length c.args.text.types.types))) (sym c.as_slice.ensures.value) c.requires.1.known

pub equations_of-requires-clause-parts : goal.equations_of-requires-clause-parts
equations_of-requires-clause-parts c = subst (λ ss. HaveParts ss 0) (sym c.as_slice.ensures.value) (looked_parts c.args.signature.now c.args.source.now c.requires.0 c.args.text c.requires.1)

pub equations_of-requires-clause-opened : goal.equations_of-requires-clause-opened
equations_of-requires-clause-opened c = subst (λ ss. HaveOpen ss c.len-2.result) (sym c.as_slice.ensures.value) (looked_open c.args.signature.now c.args.source.now c.requires.0 c.args.text c.requires.1 c.len-2.result)

pub read_off-requires-clause-shallow : goal.read_off-requires-clause-shallow
read_off-requires-clause-shallow c =
    let text = c.args.text in
    subst (All IsShallow) (sym c.as_slice-in-Some.ensures.value) (all_shallow (length text.types.types) text.steps.items c.requires.1.known)

pub read_off-requires-clause-parts : goal.read_off-requires-clause-parts
read_off-requires-clause-parts c = subst (λ ss. HaveParts ss 0) (sym c.as_slice-in-Some.ensures.value) (looked_parts c.args.signature.now c.args.source.now c.requires.0 c.args.text c.requires.1)

pub read_off-requires-clause-wanted : goal.read_off-requires-clause-wanted
read_off-requires-clause-wanted c =
    let text = c.args.text in
    let t = c.in_ok-typing.typing in
    let G = c.in_ok-typing.ensures (subst (All (IsStep (length text.types.types))) (sym c.as_slice.ensures.value) c.requires.1.known) c.args.source.now in
    let many = wanted_many c.args.signature.now c.args.source.now c.as_slice.result.now c.len-2.result text.types (length c.args.source.now + c.len.result) t G in
    let same : c.as_slice.result.now ≡ c.as_slice-in-Some.result.now = c.as_slice.ensures.value ∙ sym c.as_slice-in-Some.ensures.value in
    let places : c.len-2.result ≡ length c.as_slice-in-Some-2.result.now = omega (arith, c.len-2.ensures, text.variables.places.ok, ap length c.as_slice-in-Some-2.ensures.value) in
    many ∙ ap (λ ss. c.len-2.result + all_arguments ss) same ∙ ap (λ n. n + all_arguments c.as_slice-in-Some.result.now) places

pub read_off-requires-clause-known : goal.read_off-requires-clause-known
read_off-requires-clause-known c =
    let text = c.args.text in
    (c.in_ok-typing.ensures (subst (All (IsStep (length text.types.types))) (sym c.as_slice.ensures.value) c.requires.1.known) c.args.source.now).wanted
