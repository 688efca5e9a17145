use Rattle.std.proofs.Common.{◌≡◌, ◌∙◌, ◌+◌, ◌-◌, inl, inr, refl, ap, sym, subst, length}
use Rattle.std.specs.Prelude.{◌⊎◌, All}
use Rattle.std.specs.List.{range_with_len}
use Rattle.lp_term.proofs.Moves.{passed_up}
use Rattle.lp_module.specs.Refusals.{IsRefusal}
use Rattle.lp_module.specs.declared.fault.ModuleFault.TheVariants as fault
use Rattle.lp_module.specs.Schemes.{declared_schemes}
use Rattle.lp_module.specs.Sentences.{said}
use Rattle.lp_module.specs.inner.Typed.{AreClosed, AreStanding, IsFormedIn, IsFirstUnformed}
use Rattle.lp_module.specs.inner.Numbered.{AreNumberedKinds, AreNumberedConstants}
use Rattle.lp_module.proofs.NumbersByPlace.{kinds_by_place, constants_by_place}
use Rattle.lp_module.proofs.Typed.{sentences_later, standing, closed_count, closed_within, sentences_count, are_clauses}
use Rattle.lp_module.proofs.Saying.{untyped_inside, unformed_inside}
use Rattle.lp_module.proofs.meaning.elaborate.Goals as goal

pub returns-in-Err-clause-refused : goal.returns-in-Err-clause-refused
returns-in-Err-clause-refused c = inr (c.in_ok-check_header.ensures.same, inr (inl (c.in-Err.fault, c.in-Err.ensures.refused, c.declaration_fault.ensures)))

pub returns-in_err-sentences-clause-refused : goal.returns-in_err-sentences-clause-refused
returns-in_err-sentences-clause-refused c =
    passed_up c.from_residual-in_err-sentences.result c.in_err-sentences.field-0.0 (IsRefusal c.args.source.now c.args.text.now c.args.expected.now
    c.args.own.now c.args.used.now) c.from_residual-in_err-sentences.ensures.1
    (inr (
      c.in_ok-check_header.ensures.same,
      untyped_inside c.args.own.now c.args.used.now c.args.source.now c.args.text.now.lines.items
          c.in-Ok.signature c.in_err-sentences.field-0.0 c.in-Ok.ensures.seen c.in-Ok.ensures.theirs c.in-Ok.ensures.declared c.in_err-sentences.ensures.refused,
    ))

pub returns-in_err-check_clauses-clause-refused : goal.returns-in_err-check_clauses-clause-refused
returns-in_err-check_clauses-clause-refused c =
    let names = c.in-Ok.signature in
    let b = c.closed_sentences.new.bank in
    let ss = c.in_ok-sentences.sentences.items in
    let e = c.in_err-check_clauses.field-0.0 in
    passed_up c.from_residual-in_err-check_clauses.result e (IsRefusal c.args.source.now c.args.text.now c.args.expected.now c.args.own.now
    c.args.used.now) c.from_residual-in_err-check_clauses.ensures.1
    (inr (
      c.in_ok-check_header.ensures.same,
      unformed_inside c.args.own.now c.args.used.now c.args.source.now c.args.text.now.lines.items names b ss e c.in-Ok.ensures.seen c.in-Ok.ensures.theirs c.in-Ok.ensures.declared
          (sentences_later c.typed_sentences.new.bank b c.in_ok-clauses.ensures.kept names c.args.source.now (said c.args.text.now.lines.items) ss c.in_ok-sentences.ensures.sentences)
          (subst (λ l. (e ≡ fault.Memory) ⊎ IsFirstUnformed (declared_schemes names) b l e) c.as_slice-2.ensures.value c.in_err-check_clauses.ensures.refused),
    ))

pub returns-in_err-clauses-clause-refused : goal.returns-in_err-clauses-clause-refused
returns-in_err-clauses-clause-refused c = passed_up c.from_residual-in_err-clauses.result fault.Memory
    (IsRefusal c.args.source.now c.args.text.now c.args.expected.now c.args.own.now c.args.used.now) c.from_residual-in_err-clauses.ensures.1
    (inr (c.in_ok-check_header.ensures.same, inl refl))

pub returns-in_err-name-clause-refused : goal.returns-in_err-name-clause-refused
returns-in_err-name-clause-refused c = passed_up c.from_residual-in_err-name.result fault.Memory
    (IsRefusal c.args.source.now c.args.text.now c.args.expected.now c.args.own.now c.args.used.now) c.from_residual-in_err-name.ensures.1
    (inr (c.in_ok-check_header.ensures.same, inl refl))

pub returns-in_err-uses-clause-refused : goal.returns-in_err-uses-clause-refused
returns-in_err-uses-clause-refused c = passed_up c.from_residual-in_err-uses.result fault.Memory
    (IsRefusal c.args.source.now c.args.text.now c.args.expected.now c.args.own.now c.args.used.now) c.from_residual-in_err-uses.ensures.1
    (inr (c.in_ok-check_header.ensures.same, inl refl))

pub returns-in_err-hidden_kinds-clause-refused : goal.returns-in_err-hidden_kinds-clause-refused
returns-in_err-hidden_kinds-clause-refused c = passed_up c.from_residual-in_err-hidden_kinds.result fault.Memory
    (IsRefusal c.args.source.now c.args.text.now c.args.expected.now c.args.own.now c.args.used.now) c.from_residual-in_err-hidden_kinds.ensures.1
    (inr (c.in_ok-check_header.ensures.same, inl refl))

pub returns-in_err-hidden_constants-clause-refused : goal.returns-in_err-hidden_constants-clause-refused
returns-in_err-hidden_constants-clause-refused c = passed_up c.from_residual-in_err-hidden_constants.result fault.Memory
    (IsRefusal c.args.source.now c.args.text.now c.args.expected.now c.args.own.now c.args.used.now) c.from_residual-in_err-hidden_constants.ensures.1
    (inr (c.in_ok-check_header.ensures.same, inl refl))

pub closed_sentences-requires : goal.closed_sentences-requires
closed_sentences-requires c =
    subst (AreStanding c.typed_sentences.new.bank) (sym c.as_slice.ensures.value)
    (standing c.in-Ok.signature c.args.source.now c.typed_sentences.new.bank (said c.args.text.now.lines.items) c.in_ok-sentences.sentences.items c.in_ok-sentences.ensures.sentences)

pub returns-clause-meaning : goal.returns-clause-meaning
returns-clause-meaning c =
    let names = c.in-Ok.signature in
    let b = c.closed_sentences.new.bank in
    let raws = said c.args.text.now.lines.items in
    let ss = c.in_ok-sentences.sentences.items in
    let ks = c.in_ok-clauses.clauses.items in
    let closed = subst (λ l. AreClosed b l ks) c.as_slice.ensures.value c.in_ok-clauses.ensures.closed in
    record {
      header = c.in_ok-check_header.ensures.same;
      name = c.in_ok-name.ensures.items ∙ c.as_bytes.ensures.value;
      names = c.in-Ok.ensures.seen;
      theirs = c.in-Ok.ensures.theirs;
      declared = c.in-Ok.ensures.declared;
      uses = c.in_ok-uses.ensures;
      hidden_kinds = c.in_ok-hidden_kinds.ensures ∙ (λ i. range_with_len (8 + length (c.kinds.ensures i)) (length (c.kinds-2.ensures i) - length (c.kinds.ensures i)));
      hidden_constants = c.in_ok-hidden_constants.ensures ∙ (λ i. range_with_len (32 + length (c.constants.ensures i)) (length (c.constants-2.ensures i) - length (c.constants.ensures i)));
      count = closed_count b ss ks closed ∙ sentences_count names c.args.source.now c.typed_sentences.new.bank raws ss c.in_ok-sentences.ensures.sentences;
      clauses = closed_within b ss ks closed;
      sentences = are_clauses names c.args.source.now b raws ss ks (sentences_later c.typed_sentences.new.bank b c.in_ok-clauses.ensures.kept names
          c.args.source.now raws ss c.in_ok-sentences.ensures.sentences) closed
          (subst (All (IsFormedIn (declared_schemes names) b)) c.as_slice-2.ensures.value c.in_ok-check_clauses.ensures.formed);
    }

pub returns-clause-count : goal.returns-clause-count
returns-clause-count c =
    closed_count c.closed_sentences.new.bank c.as_slice.result.now c.in_ok-clauses.clauses.items c.in_ok-clauses.ensures.closed ∙ ap length c.as_slice.ensures.value ∙
    sentences_count c.in-Ok.signature c.args.source.now c.typed_sentences.new.bank (said c.args.text.now.lines.items) c.in_ok-sentences.sentences.items c.in_ok-sentences.ensures.sentences

pub returns-clause-clauses : goal.returns-clause-clauses
returns-clause-clauses c = closed_within c.closed_sentences.new.bank c.as_slice.result.now c.in_ok-clauses.clauses.items c.in_ok-clauses.ensures.closed

pub kinds_behind-requires : goal.kinds_behind-requires
kinds_behind-requires c = subst AreNumberedKinds (sym c.kinds-2.ensures) (kinds_by_place 8 c.in-Ok.signature.kinds.items _ c.in-Ok.ensures.seen.kinds)

pub constants_behind-requires : goal.constants_behind-requires
constants_behind-requires c = subst AreNumberedConstants (sym c.constants-2.ensures) (constants_by_place 32 c.in-Ok.signature.constants.items _ c.in-Ok.ensures.seen.constants)
