use Rattle.lp_sig.specs.inner.Telling.{of_language, of_constant}
use Rattle.std.proofs.lemmas.Bool.{ltb-true}
use Rattle.lp_sig.proofs.Reading.{never_open}
use Rattle.std.proofs.Common.{◌≡◌, get_or, ap, ◌∙◌, ◌<◌, length, subst, sym, refl}
use Rattle.lp_term.proofs.Trees.{extends_same}
use Rattle.lp_sig.proofs.Heads.{has_constant}
use Rattle.lp_sig.proofs.KnownConstants.{tree_standard, tree_declared, named_at}
use Rattle.lp_sig.proofs.Constancy.{known_standard, known_new, known_typed, known_untyped, never_untyped}
use Rattle.lp_sig.proofs.Worded.{met_standard, met_new, met_declared}
use Rattle.lp_sig.proofs.Taking.{standard_known, constant_known}
use Rattle.lp_sig.proofs.constants.Constants.known_as.Goals as goal

pub returns-in-Some-clause-is : goal.returns-in-Some-clause-is
returns-in-Some-clause-is c = λ said defs rows k.
    known_standard c.args.types.now.bank c.args.self.now said defs rows c.args.word.now c.standard_type.new.types.bank c.in-Some.number c.in_ok-known.known c.in-Some.ensures c.in_ok-known.ensures.tree

pub returns-in_default-of-clause-is : goal.returns-in_default-of-clause-is
returns-in_default-of-clause-is c = λ said defs rows k.
    known_new c.args.types.now.bank c.args.self.now said defs rows c.args.word.now k c.in_default.ensures c.in_default-of.ensures

pub returns-in-Some-declared-clause-is : goal.returns-in-Some-declared-clause-is
returns-in-Some-declared-clause-is c = λ said defs rows k.
    let x = c.in-Some-get.constant.now in
    let at : x ≡ get_or c.args.self.now.constants.items c.in-Some-of.place x = c.in-Some-get.ensures.lookup.1 ∙ ap (λ xs. get_or xs c.in-Some-of.place x) c.deref.ensures.value in
    known_typed c.args.types.now.bank c.args.self.now said defs rows c.args.word.now k c.in_default.ensures c.in-Some-of.place x
    c.in-Some-declared.declared c.in-Some-of.ensures at c.in-Some-declared.is

pub returns-in-None-clause-is : goal.returns-in-None-clause-is
returns-in-None-clause-is c = λ said defs rows k.
    let x = c.in-Some-get.constant.now in
    let at : x ≡ get_or c.args.self.now.constants.items c.in-Some-of.place x = c.in-Some-get.ensures.lookup.1 ∙ ap (λ xs. get_or xs c.in-Some-of.place x) c.deref.ensures.value in
    known_untyped c.args.types.now.bank c.args.self.now said defs rows c.args.word.now k c.in_default.ensures c.in-Some-of.place x c.in-Some-of.ensures at

pub returns-in-None-clause-untyped : goal.returns-in-None-clause-untyped
returns-in-None-clause-untyped c = λ is from z rows k typed first.
    let x = c.in-Some-get.constant.now in
    let at : x ≡ get_or c.args.self.now.constants.items c.in-Some-of.place x = c.in-Some-get.ensures.lookup.1 ∙ ap (λ xs. get_or xs c.in-Some-of.place x) c.deref.ensures.value in
    never_untyped from z rows c.args.types.now.bank c.args.self.now c.args.word.now c.in-Some-of.place x k typed c.in_default.ensures c.in-Some-of.ensures at c.in-None.is first

pub returns-in-Some-clause-met : goal.returns-in-Some-clause-met
returns-in-Some-clause-met c = λ words h. met_standard c.args.word.now words c.in-Some.number c.in-Some.ensures

pub returns-in_default-of-clause-met : goal.returns-in_default-of-clause-met
returns-in_default-of-clause-met c = λ words h. met_new c.args.self.now c.args.word.now words c.in_default.ensures c.in_default-of.ensures h

pub returns-in-Some-declared-clause-met : goal.returns-in-Some-declared-clause-met
returns-in-Some-declared-clause-met c = λ words h. met_declared c.args.self.now c.args.word.now words c.in-Some-of.place c.in-Some-of.ensures h

pub returns-in-None-clause-met : goal.returns-in-None-clause-met
returns-in-None-clause-met c = λ words h. met_declared c.args.self.now c.args.word.now words c.in-Some-of.place c.in-Some-of.ensures h

pub returns-in-Some-clause-tree : goal.returns-in-Some-clause-tree
returns-in-Some-clause-tree c = λ words h all. tree_standard c.standard_type.new.types.bank c.args.self.now c.args.word.now c.in-Some.number
    c.in_ok-known.known c.in-Some.ensures c.in_ok-known.ensures.tree

pub returns-in-Some-declared-clause-tree : goal.returns-in-Some-declared-clause-tree
returns-in-Some-declared-clause-tree c = λ words h all.
    let x = c.in-Some-get.constant.now in
    let at : x ≡ get_or c.args.self.now.constants.items c.in-Some-of.place x = c.in-Some-get.ensures.lookup.1 ∙ ap (λ xs. get_or xs c.in-Some-of.place x) c.deref.ensures.value in
    tree_declared c.args.types.now.bank c.args.types.now.bank c.args.self.now c.args.word.now words c.in-Some-of.place x c.in-Some-declared.declared h
    c.in-Some-of.ensures at c.in-Some-declared.is all (extends_same c.args.types.now.bank)

pub returns-in-None-clause-never : goal.returns-in-None-clause-never
returns-in-None-clause-never c = λ is all.
    let x = c.in-Some-get.constant.now in
    let at : x ≡ get_or c.args.self.now.constants.items c.in-Some-of.place x = c.in-Some-get.ensures.lookup.1 ∙ ap (λ xs. get_or xs c.in-Some-of.place x) c.deref.ensures.value in
    let l : c.in-Some-of.place < length c.args.self.now.constants.items = subst (λ xs. c.in-Some-of.place < length xs) c.deref.ensures.value (ltb-true c.in-Some-of.place (length c.deref.result.now) (sym c.in-Some-get.ensures.lookup.0)) in
    never_open c.args.self.now c.in-Some-of.place x l at c.in-None.is all

pub returns-in-Some-clause-known : goal.returns-in-Some-clause-known
returns-in-Some-clause-known c = λ words h t is. standard_known c.standard_type.new.types.bank c.args.self.now c.args.word.now c.in-Some.number c.in_ok-known.known t c.in-Some.ensures c.in_ok-known.ensures.tree is

pub returns-in_default-of-clause-known : goal.returns-in_default-of-clause-known
returns-in_default-of-clause-known c = λ words h t is. absurd (cc)

pub returns-in-None-clause-known : goal.returns-in-None-clause-known
returns-in-None-clause-known c = λ words h t is. absurd (cc)

pub returns-in-Some-declared-clause-known : goal.returns-in-Some-declared-clause-known
returns-in-Some-declared-clause-known c = λ words h t is.
    let x = c.in-Some-get.constant.now in
    let at : x ≡ get_or c.args.self.now.constants.items c.in-Some-of.place x = c.in-Some-get.ensures.lookup.1 ∙ ap (λ xs. get_or xs c.in-Some-of.place x) c.deref.ensures.value in
    constant_known c.args.types.now.bank c.args.self.now c.args.word.now words c.in-Some-of.place x c.in-Some-declared.declared t h c.in-Some-of.ensures at c.in-Some-declared.is is

pub returns-in-Some-clause-known_type : goal.returns-in-Some-clause-known_type
returns-in-Some-clause-known_type c = λ words h. of_language c.in-Some.number (sym c.in-Some.ensures) c.in_ok-known.ensures.tree.0 c.in_ok-known.ensures.tree.1

pub returns-in-Some-declared-clause-known_type : goal.returns-in-Some-declared-clause-known_type
returns-in-Some-declared-clause-known_type c = λ words h.
    let x = c.in-Some-get.constant.now in
    let at : x ≡ get_or c.args.self.now.constants.items c.in-Some-of.place x = c.in-Some-get.ensures.lookup.1 ∙ ap (λ xs. get_or xs c.in-Some-of.place x) c.deref.ensures.value in
    let m = named_at c.args.word.now c.args.self.now.constants.items c.in-Some-of.place x (sym (c.in-Some-of.ensures ∙ h.places c.args.word.now)) at in
    of_constant x m.0 m.1 (sym c.in_default.ensures) c.in-Some-declared.declared c.in-Some-declared.is refl

pub returns-in-None-clause-known_type : goal.returns-in-None-clause-known_type
returns-in-None-clause-known_type c = λ words h.
    let x = c.in-Some-get.constant.now in
    let at : x ≡ get_or c.args.self.now.constants.items c.in-Some-of.place x = c.in-Some-get.ensures.lookup.1 ∙ ap (λ xs. get_or xs c.in-Some-of.place x) c.deref.ensures.value in
    let m = named_at c.args.word.now c.args.self.now.constants.items c.in-Some-of.place x (sym (c.in-Some-of.ensures ∙ h.places c.args.word.now)) at in
    (x, m.0, c.in-None.is)

pub returns-in_default-get-clause-is : goal.returns-in_default-get-clause-is
returns-in_default-get-clause-is c = λ said defs rows k. absurd (has_constant c.args.self.now c.args.word.now c.in-Some-of.place c.deref.result.now k.places c.deref.ensures.value c.in-Some-of.ensures c.in_default-get.ensures.lookup.3)

pub returns-in_default-get-clause-untyped : goal.returns-in_default-get-clause-untyped
returns-in_default-get-clause-untyped c = λ is from z rows k typed first. absurd (cc)

pub returns-in_default-get-clause-met : goal.returns-in_default-get-clause-met
returns-in_default-get-clause-met c = λ words h. absurd (has_constant c.args.self.now c.args.word.now c.in-Some-of.place c.deref.result.now h.places c.deref.ensures.value c.in-Some-of.ensures c.in_default-get.ensures.lookup.3)

pub returns-in_default-get-clause-tree : goal.returns-in_default-get-clause-tree
returns-in_default-get-clause-tree c = λ words h all. absurd (has_constant c.args.self.now c.args.word.now c.in-Some-of.place c.deref.result.now h.places c.deref.ensures.value c.in-Some-of.ensures c.in_default-get.ensures.lookup.3)

pub returns-in_default-get-clause-never : goal.returns-in_default-get-clause-never
returns-in_default-get-clause-never c = λ is all. absurd (cc)

pub returns-in_default-get-clause-known : goal.returns-in_default-get-clause-known
returns-in_default-get-clause-known c = λ words h t is. absurd (cc)

pub returns-in_default-get-clause-known_type : goal.returns-in_default-get-clause-known_type
returns-in_default-get-clause-known_type c = λ words h. absurd (has_constant c.args.self.now c.args.word.now c.in-Some-of.place c.deref.result.now h.places c.deref.ensures.value c.in-Some-of.ensures c.in_default-get.ensures.lookup.3)
