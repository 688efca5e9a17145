use Rattle.std.proofs.Common.{◌≡◌, Some, None, false, ap, refl, ◌∙◌, sym, subst, length, map}
use Rattle.std.specs.Prelude.{option_map, IfSome}
use Rattle.std.proofs.lemmas.Result.{IfOk-weaker}
use Rattle.lp_sig.specs.Pieces.{spelled, begins_variable}
use Rattle.lp_sig.specs.Said.{a_kind}
use Rattle.lp_sig.specs.Words.{on_count, fault_of_word, meaning_of}
use Rattle.lp_sig.specs.Places.{first_place}
use Rattle.lp_sig.specs.Abbreviations.{abbreviation_names, place_meant}
use Rattle.lp_sig.specs.Types.{kind_number_of, IsTypeOf}
use Rattle.lp_sig.specs.Holding.{given_number, HasNumber, type_done, IsTree, IfType, IsReplaced}
use Rattle.lp_sig.specs.Knowing.{said_as, blamed}
use Rattle.lp_sig.specs.declared.names.Meaning.TheVariants as meaning
use Rattle.lp_sig.proofs.Blame.{both_ok}
use Rattle.lp_sig.proofs.Typing.{variable_made, kind_made, abbreviation_made, as_type}
use Rattle.lp_sig.proofs.Judging.{variable_stands, variable_unknown, as_name, other_arity, same_arity}
use Rattle.lp_sig.proofs.Settled.{no_type}
use Rattle.lp_sig.proofs.UsesSettled.{word_settled}
use Rattle.lp_sig.proofs.bodies.Bodies.word.Goals as goal

pub returns-in_default-clause-fault : goal.returns-in_default-clause-fault
returns-in_default-clause-fault c = λ said vs k h. variable_unknown c.args.source.now said vs c.args.spot (length c.args.arguments.now)
    c.spelled_at-name.result.now c.spelled_at-name.ensures c.in_ok-number.field-0 (sym c.is_variable.ensures ∙ c.if-is_variable.true)
    (c.in_ok-number.ensures.given vs h) c.in_default.is

pub returns-then-is_variable-clause-fault : goal.returns-then-is_variable-clause-fault
returns-then-is_variable-clause-fault c = λ said vs k h. variable_stands c.args.source.now said vs c.args.spot (length c.args.arguments.now)
    c.spelled_at-name.result.now c.spelled_at-name.ensures c.in_ok-number.field-0 c.in-Some.number (sym c.is_variable.ensures ∙ c.if-is_variable.true)
    (c.in_ok-number.ensures.given vs h) c.in-Some.is

pub returns-then-arguments-arity-clause-fault : goal.returns-then-arguments-arity-clause-fault
returns-then-arguments-arity-clause-fault c = λ said vs k h.
    other_arity c.args.spot (length c.args.arguments.now) (a_kind c.in-Some-Kind.arity) c.in-Some-Kind.arity refl c.if-arguments-arity.true ∙
    as_name c.args.source.now said vs c.args.spot (length c.args.arguments.now) c.spelled_at-name.result.now c.spelled_at-name.ensures (Some (a_kind c.in-Some-Kind.arity)) (sym c.is_variable.ensures ∙ c.if-is_variable.false)
    (ap (λ m. Some (said_as c.args.names.now m)) (sym c.in-Some-Kind.field-0-is) ∙ c.in-Some-Kind.ensures.means said k)

pub returns-in_default-2-clause-fault : goal.returns-in_default-2-clause-fault
returns-in_default-2-clause-fault c = λ said vs k h.
    same_arity c.args.spot (length c.args.arguments.now) (a_kind c.in-Some-Kind.arity) c.in-Some-Kind.arity refl c.if-arguments-arity.false ∙
    as_name c.args.source.now said vs c.args.spot (length c.args.arguments.now) c.spelled_at-name.result.now c.spelled_at-name.ensures (Some (a_kind c.in-Some-Kind.arity)) (sym c.is_variable.ensures ∙ c.if-is_variable.false)
    (ap (λ m. Some (said_as c.args.names.now m)) (sym c.in-Some-Kind.field-0-is) ∙ c.in-Some-Kind.ensures.means said k)

pub returns-in_ok-id-in-Some-Kind-clause-fault : goal.returns-in_ok-id-in-Some-Kind-clause-fault
returns-in_ok-id-in-Some-Kind-clause-fault c = λ said vs k h.
    same_arity c.args.spot (length c.args.arguments.now) (a_kind c.in-Some-Kind.arity) c.in-Some-Kind.arity refl c.if-arguments-arity.false ∙
    as_name c.args.source.now said vs c.args.spot (length c.args.arguments.now) c.spelled_at-name.result.now c.spelled_at-name.ensures (Some (a_kind c.in-Some-Kind.arity)) (sym c.is_variable.ensures ∙ c.if-is_variable.false)
    (ap (λ m. Some (said_as c.args.names.now m)) (sym c.in-Some-Kind.field-0-is) ∙ c.in-Some-Kind.ensures.means said k)

pub returns-in-None-clause-fault : goal.returns-in-None-clause-fault
returns-in-None-clause-fault c = λ said vs k h.
    as_name c.args.source.now said vs c.args.spot (length c.args.arguments.now) c.spelled_at-name.result.now c.spelled_at-name.ensures None (sym c.is_variable.ensures ∙ c.if-is_variable.false) (ap (option_map (said_as c.args.names.now)) (sym c.in-None.is) ∙ c.meaning.ensures.means said k)

pub returns-in-Some-Abbreviation-clause-fault : goal.returns-in-Some-Abbreviation-clause-fault
returns-in-Some-Abbreviation-clause-fault c = λ said vs k h.
    let n = length c.args.arguments.now in
    let m = said_as c.args.names.now (meaning.Abbreviation c.in-Some-Abbreviation.place) in
    IfOk-weaker c.replaced.result (λ made. blamed c.args.spot made ≡ on_count c.args.spot n m) (λ made. blamed c.args.spot made ≡ fault_of_word c.args.source.now said vs c.args.spot n)
    (λ made is. is ∙ as_name c.args.source.now said vs c.args.spot n c.spelled_at-name.result.now c.spelled_at-name.ensures (Some m) (sym c.is_variable.ensures ∙ c.if-is_variable.false)
    (ap (λ m. Some (said_as c.args.names.now m)) (sym c.in-Some-Abbreviation.field-0-is) ∙ c.in-Some-Abbreviation.ensures.means said k)) (c.replaced.ensures.counted c.args.spot)

pub returns-then-is_variable-clause-typed : goal.returns-then-is_variable-clause-typed
returns-then-is_variable-clause-typed c = λ said defs ν nodes i args k h all at same num.
    variable_made c.args.self.now.types.bank said defs c.args.source.now ν nodes c.args.done.now all c.var.new.self.bank i c.args.spot args (given_number c.args.variables.now) c.spelled_at-name.result.now c.in-Some.number c.in_ok-id.id at num c.spelled_at-name.ensures
    (sym c.is_variable.ensures ∙ c.if-is_variable.true) (sym c.in_ok-number.ensures.is ∙ c.in-Some.is) c.in_ok-id.ensures.tree.0 c.in_ok-id.ensures.tree.1

pub returns-in_ok-id-in-Some-Kind-clause-typed : goal.returns-in_ok-id-in-Some-Kind-clause-typed
returns-in_ok-id-in-Some-Kind-clause-typed c = λ said defs ν nodes i args k h all at same num.
    let made = subst (λ o. IfSome o (λ types. map (type_done c.args.done.now) c.args.arguments.now ≡ map (λ t. Some t) types.items)) c.in-Some-2.is c.in_ok-parts-in-Some-Kind.ensures.are in
    kind_made c.args.self.now.types.bank said defs c.args.source.now ν nodes c.args.done.now all c.con.new.self.bank i c.args.spot args
    c.args.arguments.now c.spelled_at-name.result.now c.in-Some-Kind.number c.in-Some-Kind.arity c.in-Some-2.parts.items c.as_slice.result.now
    c.in_ok-id-in-Some-Kind.id at same
    c.spelled_at-name.ensures (sym c.is_variable.ensures ∙ c.if-is_variable.false) (ap (λ m. Some (said_as c.args.names.now m)) (sym c.in-Some-Kind.field-0-is) ∙ c.in-Some-Kind.ensures.means said k) c.if-arguments-arity.false
    (subst (HasNumber (kind_number_of c.spelled_at-name.result.now said)) c.in-Some-Kind.field-0-is (c.in-Some-Kind.ensures.exact said k)) made c.as_slice.ensures.value c.in_ok-id-in-Some-Kind.ensures.tree.0 c.in_ok-id-in-Some-Kind.ensures.tree.1

pub returns-in-Some-Abbreviation-clause-typed : goal.returns-in-Some-Abbreviation-clause-typed
returns-in-Some-Abbreviation-clause-typed c = λ said defs ν nodes i args k h all at same num.
    let b = c.args.self.now.types.bank in
    let now = c.replaced.new.self.types.bank in
    let text = c.args.source.now in
    let word = c.spelled_at-name.result.now in
    let place = c.in-Some-Abbreviation.place in
    let m = said_as c.args.names.now (meaning.Abbreviation place) in
    let there : first_place word (abbreviation_names said) ≡ Some place = sym (c.in-Some-Abbreviation.ensures.place said k) ∙ ap (λ m. place_meant (Some m)) c.in-Some-Abbreviation.field-0-is in
    let means : Some m ≡ meaning_of word said = ap (λ m. Some (said_as c.args.names.now m)) (sym c.in-Some-Abbreviation.field-0-is) ∙ c.in-Some-Abbreviation.ensures.means said k in
    IfOk-weaker c.replaced.result (λ made. (blamed c.args.spot made ≡ on_count c.args.spot (length c.args.arguments.now) m) × IfType made (IsReplaced b now said defs word c.args.done.now c.args.arguments.now)) (λ made. IfType made (IsTree now (IsTypeOf said defs text ν nodes i)))
    (λ made p. as_type made (IsReplaced b now said defs word c.args.done.now c.args.arguments.now) (IsTree now (IsTypeOf said defs text ν nodes i))
    (λ id is r. abbreviation_made b said defs text ν nodes c.args.done.now all now i c.args.spot args c.args.arguments.now word m _ id at same c.spelled_at-name.ensures (sym c.is_variable.ensures ∙ c.if-is_variable.false) means refl (ap (blamed c.args.spot) (sym is) ∙ p.0) r) p.1)
    (both_ok c.replaced.result (λ made. blamed c.args.spot made ≡ on_count c.args.spot (length c.args.arguments.now) m)
    (λ made. IfType made (IsReplaced b now said defs word c.args.done.now c.args.arguments.now)) (c.replaced.ensures.counted c.args.spot)
    (c.replaced.ensures.typed said defs word h there))

pub returns-in_default-2-clause-settled : goal.returns-in_default-2-clause-settled
returns-in_default-2-clause-settled c = λ said args k settled all is. no_type c.in_ok-parts-in-Some-Kind.field-0 c.in_default-2.is (c.in_ok-parts-in-Some-Kind.ensures.made all)

pub returns-in-Some-Abbreviation-clause-settled : goal.returns-in-Some-Abbreviation-clause-settled
returns-in-Some-Abbreviation-clause-settled c = λ said args k settled all.
    let text = c.args.source.now in
    let s = c.args.spot in
    let word = c.spelled_at-name.result.now in
    let place = c.in-Some-Abbreviation.place in
    let there : first_place word (abbreviation_names said) ≡ Some place = sym (c.in-Some-Abbreviation.ensures.place said k) ∙ ap (λ m. place_meant (Some m)) c.in-Some-Abbreviation.field-0-is in
    let constant : begins_variable (spelled text s) ≡ false = ap begins_variable (sym c.spelled_at-name.ensures) ∙ sym c.is_variable.ensures ∙ c.if-is_variable.false in
    c.replaced.ensures.settled (word_settled c.args.self.now.bodies.items (abbreviation_names said) text s args place constant (sym there ∙ ap (λ w. first_place w (abbreviation_names said)) c.spelled_at-name.ensures) settled) all
