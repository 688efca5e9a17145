use Rattle.std.proofs.Common.{◌<◌, ◌≤◌, ◌++◌, ◌∷◌, [], ap, ◌∙◌, map, length, arith}
use Rattle.std.proofs.lemmas.List.{length-map}
use Rattle.std.proofs.lemmas.Result.{on_ok_weaker}
use Rattle.lp_sig.specs.Places.{first_place}
use Rattle.lp_sig.specs.Said.{an_abbreviation}
use Rattle.lp_sig.specs.Pieces.{spelled}
use Rattle.lp_sig.specs.Abbreviations.{abbreviation_names}
use Rattle.lp_sig.proofs.Abbreviating.{no_abbreviation, old_abbreviation, new_abbreviation}
use Rattle.lp_sig.proofs.walk.Ways.note_body.Goals as goal

pub returns-in_default : goal.returns-in_default
returns-in_default c = λ z p more k u.
    let n = spelled c.args.source.now c.args.name in
    let all = (z.said ++ (n, an_abbreviation p) ∷ []) ++ more in
    no_abbreviation (map (λ out. out.items) c.args.self.now.ways.items) z n p _ u more c.abbreviation.result (c.abbreviation.ensures all k ∙ ap (λ n. first_place n (abbreviation_names all)) c.spelled_at.ensures) c.in_default.is

pub returns-then-place-len : goal.returns-then-place-len
returns-then-place-len c = λ z p more k u.
    let n = spelled c.args.source.now c.args.name in
    let all = (z.said ++ (n, an_abbreviation p) ∷ []) ++ more in
    let uses = map (λ out. out.items) c.args.self.now.ways.items in
    let l = length-map c.args.self.now.ways.items (λ out. out.items) in
    let less : c.in-Some.place < length uses = omega (arith, c.if-place-len.true, c.len.ensures, c.args.self.now.ways.ok, l) in
    old_abbreviation uses z n p _ u more c.abbreviation.result (c.abbreviation.ensures all k ∙ ap (λ n. first_place n (abbreviation_names all)) c.spelled_at.ensures) c.in-Some.place c.in-Some.is less

pub returns : goal.returns
returns c = on_ok_weaker c.push.result (λ e z p more k u.
    let n = spelled c.args.source.now c.args.name in
    let all = (z.said ++ (n, an_abbreviation p) ∷ []) ++ more in
    let uses = map (λ out. out.items) c.args.self.now.ways.items in
    let l = length-map c.args.self.now.ways.items (λ out. out.items) in
    let less : length uses ≤ c.in-Some.place = omega (arith, c.if-place-len.false, c.len.ensures, c.args.self.now.ways.ok, l) in
    new_abbreviation uses z n p _ u more c.abbreviation.result (c.abbreviation.ensures all k ∙ ap (λ n. first_place n (abbreviation_names all)) c.spelled_at.ensures) c.in-Some.place c.in-Some.is less
    (map (λ out. out.items) c.push.new.self.ways.items) (e ∙ ap (λ w. uses ++ w ∷ []) (c.in_ok-uses.ensures all k))) c.push.ensures
