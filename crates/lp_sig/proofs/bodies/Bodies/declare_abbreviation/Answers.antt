use Rattle.std.proofs.Common.{◌≡◌, refl, ap, ◌∙◌, map, inl, inr, ⊎_elim}
use Rattle.lp_lemmas.proofs.Options.{some_from_is_some}
use Rattle.lp_lemmas.proofs.Results.{passed_up}
use Rattle.lp_sig.specs.Faults.{IsAbbreviationFault, a_name, circle, arguments, other, memory}
use Rattle.lp_sig.specs.Pieces.{spelled}
use Rattle.lp_sig.specs.Words.{parameters_of}
use Rattle.lp_sig.specs.Abbreviations.{abbreviation_names}
use Rattle.lp_sig.specs.Holding.{body_of}
use Rattle.lp_sig.specs.declared.fault.SigFault.TheVariants as fault
use Rattle.lp_sig.proofs.Heads.{place_below}
use Rattle.lp_sig.proofs.Typing.{bodies_stay}
use Rattle.lp_sig.proofs.Differing.{other_body}
use Rattle.lp_sig.proofs.Alike.{same_body}
use Rattle.lp_sig.proofs.Leading.{leads_back, never_back}
use Rattle.lp_sig.proofs.SoundSentences.{uses_settled}
use Rattle.lp_sig.proofs.Sentences.{abbreviation_repeated, abbreviation_word}
use Rattle.std.specs.Prelude.{◌⊎◌}
use Rattle.lp_sig.specs.ModuleFaults as faults
use Rattle.lp_sig.specs.Differing.{IsOtherBodyIf}
use Rattle.lp_sig.proofs.Taking.{word_not_other, repeated_if}
use Rattle.lp_sig.proofs.bodies.Bodies.declare_abbreviation.Goals as goal

pub returns-in_err-place-clause-why : goal.returns-in_err-place-clause-why
returns-in_err-place-clause-why c = λ z s.
    passed_up c.from_residual.result c.in_err-place.field-0.0 (IsAbbreviationFault c.args.source.now z c.args.name c.args.parameters.now c.args.raw.now) c.from_residual.ensures.1
    (a_name (c.in_err-place.ensures.why z.said s.known))

pub returns-in_err-words-clause-why : goal.returns-in_err-words-clause-why
returns-in_err-words-clause-why c = λ z s.
    passed_up c.from_residual-in_err-words.result fault.Memory (IsAbbreviationFault c.args.source.now z c.args.name c.args.parameters.now c.args.raw.now) c.from_residual-in_err-words.ensures.1 (memory refl)

pub returns-in_err-lead_to-clause-why : goal.returns-in_err-lead_to-clause-why
returns-in_err-lead_to-clause-why c = λ z s.
    passed_up c.from_residual-in_err-lead_to.result fault.Memory (IsAbbreviationFault c.args.source.now z c.args.name c.args.parameters.now c.args.raw.now) c.from_residual-in_err-lead_to.ensures.1 (memory refl)

pub returns-then-branch-clause-why : goal.returns-then-branch-clause-why
returns-then-branch-clause-why c = λ z s.
    circle refl (c.in_ok-place.ensures.meant z.said s.known)
    (leads_back z (map (λ out. out.items) c.args.uses.now.ways.items) c.args.source.now c.args.name c.args.raw.now c.in_ok-place.place c.as_slice.result.now s.uses (c.in_ok-place.ensures.place z.said s.known) (c.as_slice.ensures.value ∙ c.in_ok-words.ensures z.said s.known)
    (c.in_ok-lead_to.ensures.found c.if-branch.true))

pub returns-in_err-variables-clause-why : goal.returns-in_err-variables-clause-why
returns-in_err-variables-clause-why c = λ z s.
    passed_up c.from_residual-in_err-variables.result c.in_err-variables.field-0.0 (IsAbbreviationFault c.args.source.now z c.args.name c.args.parameters.now c.args.raw.now) c.from_residual-in_err-variables.ensures.1
    (abbreviation_repeated c.args.source.now z c.args.name c.args.parameters.now c.args.raw.now c.in_err-variables.field-0.0
    (record {
      meant = c.in_ok-place.ensures.meant z.said s.known;
      ends = never_back z (map (λ out. out.items) c.args.uses.now.ways.items)
          c.args.source.now c.args.name c.args.raw.now c.in_ok-place.place c.as_slice.result.now s.uses (c.in_ok-place.ensures.place z.said s.known)
          (c.as_slice.ensures.value ∙ c.in_ok-words.ensures z.said s.known) (c.in_ok-lead_to.ensures.none c.if-branch.false);
    })
    c.in_err-variables.ensures.repeated)

pub returns-then-parameters-gt-MAX_ARGUMENTS-clause-why : goal.returns-then-parameters-gt-MAX_ARGUMENTS-clause-why
returns-then-parameters-gt-MAX_ARGUMENTS-clause-why c = λ z s. arguments refl (record {
  meant = c.in_ok-place.ensures.meant z.said s.known;
  ends = never_back z (map (λ out. out.items) c.args.uses.now.ways.items) c.args.source.now
      c.args.name c.args.raw.now c.in_ok-place.place c.as_slice.result.now s.uses (c.in_ok-place.ensures.place z.said s.known)
      (c.as_slice.ensures.value ∙ c.in_ok-words.ensures z.said s.known) (c.in_ok-lead_to.ensures.none c.if-branch.false);
})
    c.in_ok-variables.ensures.taken c.if-parameters-gt-MAX_ARGUMENTS.true

pub returns-in_err-body-clause-why : goal.returns-in_err-body-clause-why
returns-in_err-body-clause-why c = λ z s.
    let ps = c.args.parameters.now in
    passed_up c.from_residual-in_err-body.result c.in_err-body.field-0.0 (IsAbbreviationFault c.args.source.now z c.args.name ps c.args.raw.now) c.from_residual-in_err-body.ensures.1
    (abbreviation_word c.args.source.now z c.args.name ps c.args.raw.now c.in_err-body.field-0.0
    (record {
      head = (c.in_ok-place.ensures.meant z.said s.known, c.in_ok-variables.ensures.taken, c.if-parameters-gt-MAX_ARGUMENTS.false);
      ends = never_back z (map (λ out. out.items) c.args.uses.now.ways.items) c.args.source.now c.args.name c.args.raw.now c.in_ok-place.place
          c.as_slice.result.now s.uses (c.in_ok-place.ensures.place z.said s.known) (c.as_slice.ensures.value ∙ c.in_ok-words.ensures z.said s.known)
          (c.in_ok-lead_to.ensures.none c.if-branch.false);
    })
    (c.in_err-body.ensures.first z.said (parameters_of c.args.source.now ps) s.known c.in_ok-variables.ensures.held))

pub returns-then-has_other_body-clause-why : goal.returns-then-has_other_body-clause-why
returns-then-has_other_body-clause-why c = λ z s.
    let ps = c.args.parameters.now in
    let b = c.expand.new.self in
    let o = c.has_other_body.ensures.other c.if-has_other_body.true in
    other refl (record {
      head = (c.in_ok-place.ensures.meant z.said s.known, c.in_ok-variables.ensures.taken, c.if-parameters-gt-MAX_ARGUMENTS.false);
      ends = never_back z (map (λ out. out.items) c.args.uses.now.ways.items) c.args.source.now c.args.name c.args.raw.now c.in_ok-place.place
          c.as_slice.result.now s.uses (c.in_ok-place.ensures.place z.said s.known) (c.as_slice.ensures.value ∙ c.in_ok-words.ensures z.said s.known)
          (c.in_ok-lead_to.ensures.none c.if-branch.false);
    }) (c.in_ok-body.ensures.stand z.said (parameters_of c.args.source.now ps) s.known
    c.in_ok-variables.ensures.held)
    (other_body b.types.bank b.bodies.items z.said z.definitions c.args.source.now c.args.name ps c.args.raw.now c.in_ok-place.place o.0 o.1 c.in_ok-body.body
    (bodies_stay c.args.self.now.types.bank b.types.bank c.args.self.now.bodies.items b.bodies.items z.said z.definitions c.expand.ensures.kept (ap (λ v. v.items) c.expand.ensures.bodies) s.holds) (c.in_ok-place.ensures.place z.said s.known) o.2 o.3
    (c.in_ok-body.ensures.body z.said z.definitions ps s.known s.holds c.in_ok-variables.ensures.numbered) o.4)

pub returns-clause-stand : goal.returns-clause-stand
returns-clause-stand c = λ z k u. record {
  straight = record {
    head = (c.in_ok-place.ensures.meant z.said k, c.in_ok-variables.ensures.taken, c.if-parameters-gt-MAX_ARGUMENTS.false);
    ends = never_back z (map (λ out. out.items) c.args.uses.now.ways.items) c.args.source.now c.args.name c.args.raw.now c.in_ok-place.place
        c.as_slice.result.now u (c.in_ok-place.ensures.place z.said k) (c.as_slice.ensures.value ∙ c.in_ok-words.ensures z.said k)
        (c.in_ok-lead_to.ensures.none c.if-branch.false);
  };
  words = c.in_ok-body.ensures.stand z.said (parameters_of c.args.source.now c.args.parameters.now) k c.in_ok-variables.ensures.held;
}

pub returns-clause-same : goal.returns-clause-same
returns-clause-same c = λ from z s settled stands first_stands.
    let text = c.args.source.now in
    let ps = c.args.parameters.now in
    let ty = c.args.raw.now in
    let old = c.args.self.now in
    let b = c.expand.new.self in
    let place = c.in_ok-place.place in
    let there = c.in_ok-place.ensures.place z.said s.known in
    let known = some_from_is_some (body_of old.bodies.items place) (settled place (place_below (spelled text c.args.name) (abbreviation_names z.said) place there) (first_stands place there)) in
    let at = ap (λ v. body_of v.items place) c.expand.ensures.bodies ∙ known.1 in
    let new = some_from_is_some c.in_ok-body.body (c.in_ok-body.ensures.settled z.said s.known (uses_settled from z old.bodies.items text ty settled stands)) in
    same_body b.types.bank b.bodies.items z.said z.definitions text c.args.name ps ty place known.0 new.0 c.in_ok-body.body
    (bodies_stay old.types.bank b.types.bank old.bodies.items b.bodies.items z.said z.definitions c.expand.ensures.kept (ap (λ v. v.items) c.expand.ensures.bodies) s.holds) there at new.1
    (c.in_ok-body.ensures.body z.said z.definitions ps s.known s.holds c.in_ok-variables.ensures.numbered) (c.has_other_body.ensures.same c.if-has_other_body.false known.0 new.0 at new.1)

pub returns-in_err-place-clause-reason : goal.returns-in_err-place-clause-reason
returns-in_err-place-clause-reason c = λ z k u.
    passed_up c.from_residual.result c.in_err-place.field-0.0 (λ e. (e ≡ fault.Memory) ⊎ faults.IsAbbreviationWrong c.args.source.now z c.args.name c.args.parameters.now c.args.raw.now e) c.from_residual.ensures.1
    (inr (faults.a_name (c.in_err-place.ensures.why z.said k)))

pub returns-in_err-words-clause-reason : goal.returns-in_err-words-clause-reason
returns-in_err-words-clause-reason c = λ z k u.
    passed_up c.from_residual-in_err-words.result fault.Memory (λ e. (e ≡ fault.Memory) ⊎ faults.IsAbbreviationWrong c.args.source.now z c.args.name c.args.parameters.now c.args.raw.now e) c.from_residual-in_err-words.ensures.1
    (inl refl)

pub returns-in_err-lead_to-clause-reason : goal.returns-in_err-lead_to-clause-reason
returns-in_err-lead_to-clause-reason c = λ z k u.
    passed_up c.from_residual-in_err-lead_to.result fault.Memory (λ e. (e ≡ fault.Memory) ⊎ faults.IsAbbreviationWrong c.args.source.now z c.args.name c.args.parameters.now c.args.raw.now e) c.from_residual-in_err-lead_to.ensures.1
    (inl refl)

pub returns-then-branch-clause-reason : goal.returns-then-branch-clause-reason
returns-then-branch-clause-reason c = λ z k u.
    inr (faults.circle refl (c.in_ok-place.ensures.meant z.said k)
    (leads_back z (map (λ out. out.items) c.args.uses.now.ways.items) c.args.source.now c.args.name c.args.raw.now c.in_ok-place.place c.as_slice.result.now u (c.in_ok-place.ensures.place z.said k)
    (c.as_slice.ensures.value ∙ c.in_ok-words.ensures z.said k) (c.in_ok-lead_to.ensures.found c.if-branch.true)))

pub returns-in_err-variables-clause-reason : goal.returns-in_err-variables-clause-reason
returns-in_err-variables-clause-reason c = λ z k u.
    passed_up c.from_residual-in_err-variables.result c.in_err-variables.field-0.0 (λ e. (e ≡ fault.Memory) ⊎ faults.IsAbbreviationWrong c.args.source.now z c.args.name c.args.parameters.now c.args.raw.now e) c.from_residual-in_err-variables.ensures.1
    (⊎_elim (λ m. inl m) (λ r. inr (faults.repeated r.0 r.1 (record {
      meant = c.in_ok-place.ensures.meant z.said k;
      ends = never_back z (map (λ out. out.items) c.args.uses.now.ways.items) c.args.source.now c.args.name c.args.raw.now c.in_ok-place.place
          c.as_slice.result.now u (c.in_ok-place.ensures.place z.said k) (c.as_slice.ensures.value ∙ c.in_ok-words.ensures z.said k)
          (c.in_ok-lead_to.ensures.none c.if-branch.false);
    }) r.2)) c.in_err-variables.ensures.repeated)

pub returns-then-parameters-gt-MAX_ARGUMENTS-clause-reason : goal.returns-then-parameters-gt-MAX_ARGUMENTS-clause-reason
returns-then-parameters-gt-MAX_ARGUMENTS-clause-reason c = λ z k u.
    inr (faults.arguments refl (record {
      meant = c.in_ok-place.ensures.meant z.said k;
      ends = never_back z (map (λ out. out.items) c.args.uses.now.ways.items) c.args.source.now c.args.name c.args.raw.now c.in_ok-place.place
          c.as_slice.result.now u (c.in_ok-place.ensures.place z.said k) (c.as_slice.ensures.value ∙ c.in_ok-words.ensures z.said k)
          (c.in_ok-lead_to.ensures.none c.if-branch.false);
    }) c.in_ok-variables.ensures.taken c.if-parameters-gt-MAX_ARGUMENTS.true)

pub returns-in_err-body-clause-reason : goal.returns-in_err-body-clause-reason
returns-in_err-body-clause-reason c = λ z k u.
    passed_up c.from_residual-in_err-body.result c.in_err-body.field-0.0 (λ e. (e ≡ fault.Memory) ⊎ faults.IsAbbreviationWrong c.args.source.now z c.args.name c.args.parameters.now c.args.raw.now e) c.from_residual-in_err-body.ensures.1
    (⊎_elim (λ m. inl m) (λ f. inr (faults.a_word (record {
      head = (c.in_ok-place.ensures.meant z.said k, c.in_ok-variables.ensures.taken, c.if-parameters-gt-MAX_ARGUMENTS.false);
      ends = never_back z (map (λ out. out.items) c.args.uses.now.ways.items) c.args.source.now c.args.name c.args.raw.now c.in_ok-place.place
          c.as_slice.result.now u (c.in_ok-place.ensures.place z.said k) (c.as_slice.ensures.value ∙ c.in_ok-words.ensures z.said k)
          (c.in_ok-lead_to.ensures.none c.if-branch.false);
    }) f)) (c.in_err-body.ensures.first z.said (parameters_of c.args.source.now c.args.parameters.now) k c.in_ok-variables.ensures.held))

pub returns-then-has_other_body-clause-reason : goal.returns-then-has_other_body-clause-reason
returns-then-has_other_body-clause-reason c = λ z k u.
    inr (faults.other refl (record {
      head = (c.in_ok-place.ensures.meant z.said k, c.in_ok-variables.ensures.taken, c.if-parameters-gt-MAX_ARGUMENTS.false);
      ends = never_back z (map (λ out. out.items) c.args.uses.now.ways.items) c.args.source.now c.args.name c.args.raw.now c.in_ok-place.place
          c.as_slice.result.now u (c.in_ok-place.ensures.place z.said k) (c.as_slice.ensures.value ∙ c.in_ok-words.ensures z.said k)
          (c.in_ok-lead_to.ensures.none c.if-branch.false);
    }) (c.in_ok-body.ensures.stand z.said (parameters_of c.args.source.now c.args.parameters.now) k c.in_ok-variables.ensures.held))

pub returns-in_err-place-clause-other : goal.returns-in_err-place-clause-other
returns-in_err-place-clause-other c = λ said defs k h. passed_up c.from_residual.result c.in_err-place.field-0.0 (IsOtherBodyIf c.args.source.now said defs c.args.name c.args.parameters.now c.args.raw.now) c.from_residual.ensures.1 (λ is. inl (c.in_err-place.ensures.why said k))

pub returns-in_err-words-clause-other : goal.returns-in_err-words-clause-other
returns-in_err-words-clause-other c = λ said defs k h. passed_up c.from_residual-in_err-words.result fault.Memory (IsOtherBodyIf c.args.source.now said defs c.args.name c.args.parameters.now c.args.raw.now) c.from_residual-in_err-words.ensures.1 (λ is. absurd (cc))

pub returns-in_err-lead_to-clause-other : goal.returns-in_err-lead_to-clause-other
returns-in_err-lead_to-clause-other c = λ said defs k h. passed_up c.from_residual-in_err-lead_to.result fault.Memory (IsOtherBodyIf c.args.source.now said defs c.args.name c.args.parameters.now c.args.raw.now) c.from_residual-in_err-lead_to.ensures.1 (λ is. absurd (cc))

pub returns-then-branch-clause-other : goal.returns-then-branch-clause-other
returns-then-branch-clause-other c = λ said defs k h is. absurd (cc)

pub returns-in_err-variables-clause-other : goal.returns-in_err-variables-clause-other
returns-in_err-variables-clause-other c = λ said defs k h. passed_up c.from_residual-in_err-variables.result c.in_err-variables.field-0.0 (IsOtherBodyIf c.args.source.now said defs c.args.name c.args.parameters.now c.args.raw.now) c.from_residual-in_err-variables.ensures.1
    (repeated_if c.args.source.now said defs c.args.name c.args.parameters.now c.args.raw.now c.in_err-variables.field-0.0 c.in_err-variables.ensures.repeated)

pub returns-then-parameters-gt-MAX_ARGUMENTS-clause-other : goal.returns-then-parameters-gt-MAX_ARGUMENTS-clause-other
returns-then-parameters-gt-MAX_ARGUMENTS-clause-other c = λ said defs k h is. absurd (cc)

pub returns-in_err-body-clause-other : goal.returns-in_err-body-clause-other
returns-in_err-body-clause-other c = λ said defs k h.
    let ps = c.args.parameters.now in
    passed_up c.from_residual-in_err-body.result c.in_err-body.field-0.0 (IsOtherBodyIf c.args.source.now said defs c.args.name c.args.parameters.now c.args.raw.now) c.from_residual-in_err-body.ensures.1
    (λ is. absurd (word_not_other c.args.source.now said (parameters_of c.args.source.now ps) c.args.raw.now.nodes.items c.in_err-body.field-0.0 c.args.name (c.in_err-body.ensures.first said (parameters_of c.args.source.now ps) k c.in_ok-variables.ensures.held) is))

pub returns-then-has_other_body-clause-other : goal.returns-then-has_other_body-clause-other
returns-then-has_other_body-clause-other c = λ said defs k h is.
    let ps = c.args.parameters.now in
    let b = c.expand.new.self in
    let o = c.has_other_body.ensures.other c.if-has_other_body.true in
    inr (inr (other_body b.types.bank b.bodies.items said defs c.args.source.now c.args.name ps c.args.raw.now c.in_ok-place.place o.0 o.1 c.in_ok-body.body
    (bodies_stay c.args.self.now.types.bank b.types.bank c.args.self.now.bodies.items b.bodies.items said defs c.expand.ensures.kept (ap (λ v. v.items) c.expand.ensures.bodies) h) (c.in_ok-place.ensures.place said k) o.2 o.3
    (c.in_ok-body.ensures.body said defs ps k h c.in_ok-variables.ensures.numbered) o.4))
