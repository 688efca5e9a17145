-- What an image denotes are the flattened clauses of the program of the same modules, where the objects of these denote theirs.
use Rattle.std.proofs.Common.{◌≡◌, ◌∙◌, ◌++◌, ◌∷◌, [], ◌+◌, ℕ, List, Option, Some, length, map, get_or, ap, refl, sym, subst, append_assoc, arith}
use Rattle.std.specs.Prelude.{slice_get}
use Rattle.std.proofs.lemmas.Option.{get_or_from_slice_get}
use Rattle.lp_lemmas.proofs.Lists.{get_map}
use Rattle.lp_lemmas.proofs.Options.{one_value}
use Rattle.lp_calculus.specs.Typing.{Scheme}
use Rattle.lp_model.specs.Flat.{Clause, clause_list}
use Rattle.lp_model.specs.Flatten.{ClauseFormula}
use Rattle.lp_model.specs.Proofs.{AreFlattened}
use Rattle.lp_model.specs.Readings.{formula_of}
use Rattle.lp_code.specs.Denote.{denote}
use Rattle.lp_code.specs.Naming.{image_tables, object_tables}
use Rattle.lp_code.specs.declared.image.Image.{Image}
use Rattle.lp_code.specs.declared.object.Object.{Object}
use Rattle.lp_link.specs.Linked as linked
use Rattle.lp_link.specs.Linked.{AreDenoted, renumbered_clause}
use Rattle.lp_link.specs.Numbers.{renumbered}
use Rattle.lp_module.specs.Program.{Copy, IsProgram, clauses_in, clauses_of, in_copy}
use Rattle.lp_module.specs.declared.copies.Assembled.{Assembled}
use Rattle.lp_module.specs.declared.module.Module.{Module}
use Rattle.lp_build.specs.Compiled.{ArePaired, IsObjectOf}
use Rattle.lp_build.specs.Copied.{AreSame, HasCopies, IsSame}
use Rattle.lp_build.specs.Images.{IsImage}
use Rattle.lp_build.specs.Reads.{AreRead}
use Rattle.lp_build.specs.Ready.{AreFormulasOver, AreReadyForCode, HoldWhatTheySee}
use Rattle.lp_build.specs.declared.sources.Sources.{Sources}
use Rattle.lp_build.proofs.CopyClauses.{copy_flat}
use Rattle.lp_build.proofs.CopyNumbering.{AreHigh, constants_same, keeps_language, kinds_same, linked_high}
use Rattle.lp_build.proofs.Over.{hold_what_they_see}
use Rattle.lp_build.proofs.SameCopies.{paired_at}

flattened_append : (d : ℕ → Option Scheme) (fs gs : List ClauseFormula) (ds es : List Clause) → AreFlattened d fs ds → AreFlattened d gs es → AreFlattened d (fs ++ gs) (ds ++ es)
flattened_append d [] gs ds es none more = subst (λ l. AreFlattened d gs (l ++ es)) (sym none) more
flattened_append d (f ∷ fs) gs ds es (depth, cs, rest, is, are, e) more =
    (depth, cs, rest ++ es, is, flattened_append d fs gs rest es are more, ap (λ l. l ++ es) e ∙ append_assoc (clause_list cs) rest es)

-- the clauses of copies, as the image denotes them
record AreClauses (d : ℕ → Option Scheme) (ms : List Module) (n : ℕ) (cs : List Copy) (copies : List linked.Copy) : Type 0 where
  clauses : List Clause
  denoted : AreDenoted n copies clauses
  flat : AreFlattened d (clauses_of ms cs) clauses

copied_clauses : (d : ℕ → Option Scheme) (ms : List Module) (os : List Object) → ArePaired IsObjectOf ms (length ms) os → (n : ℕ) (cs : List Copy)
    (copies : List linked.Copy) → AreSame os cs copies → AreHigh copies
    → HoldWhatTheySee ms → AreReadyForCode d ms cs copies → AreClauses d ms n cs copies
copied_clauses d ms os paired n [] [] same high hold ready = record { clauses = []; denoted = refl; flat = refl }
copied_clauses d ms os paired n [] (e ∷ es) same high hold ready = absurd same
copied_clauses d ms os paired n (c ∷ cs) [] same high hold ready = absurd same
copied_clauses d ms os paired n (c ∷ cs) (e ∷ es) ((o, there, is), same) (above, high) hold ((m, own, at, r), ready) =
    let rest = copied_clauses d ms os paired (n + length e.object.code.records.items) cs es same high hold ready in
    let (o', there', object) = paired_at IsObjectOf ms os paired c.member m at in
    let one : o' ≡ e.object = one_value (slice_get os c.member) o' o there' there ∙ sym is.object in
    let code = subst (λ (x : Object). IsObjectOf m x) one object in
    let here = subst (λ (x : Object). IsSame x c e) (sym is.object) is in
    let over = subst (λ C. AreFormulasOver (8 + length e.object.kinds.items) C (clauses_in m)) (ap (λ n. 32 + n) (sym code.names.constants.many))
    (subst (λ K. AreFormulasOver K (32 + length m.signature.constants.items) (clauses_in m)) (ap (λ n. 8 + n) (sym code.names.kinds.many)) (hold c.member m at)) in
    let formulas : get_or (map clauses_in ms) c.member [] ≡ clauses_in m = get_or_from_slice_get (map clauses_in ms) c.member (clauses_in m) [] (get_map clauses_in ms c.member m at) in
    record {
      clauses = map (renumbered_clause n e) own ++ rest.clauses;
      denoted = (own, rest.clauses, code.code own r.flat r.known r.fit, rest.denoted, refl);
      flat = subst (λ l. AreFlattened d (map (in_copy c) l ++ clauses_of ms cs) (map (renumbered_clause n e) own ++ rest.clauses)) (sym formulas)
          (flattened_append d (map (in_copy c) (clauses_in m)) (clauses_of ms cs) (map (renumbered_clause n e) own) rest.clauses
          (copy_flat c (renumbered 8 e.kinds) (renumbered 32 e.constants) n (8 + length e.object.kinds.items) (32 + length e.object.constants.items)
          (kinds_same e.object c e here) (constants_same e.object c e here)
          (object_tables e.object).constants d (keeps_language e.constants above) r.heads (clauses_in m) own over r.flat) rest.flat);
    }

-- an image and the program of the same modules
pub image_denotes : (sources : Sources) (image : Image) (h : IsImage sources image) (a : Assembled) (p : IsProgram h.modules h.is.root a)
    (d : ℕ → Option Scheme) (k : HasCopies h.is.objects h.is.root p.copied)
    → AreRead sources → AreReadyForCode d h.modules p.copied k.copies → (ds : List Clause) × (denote (image_tables image) image.code.records.items ≡ Some ds) × AreFlattened d
    (map (formula_of a.program.bank) a.program.clauses.items) ds
image_denotes sources image h a p d k read ready =
    let high = linked_high k.are tt (omega arith) in
    let c = copied_clauses d h.modules h.is.objects h.is.are 0 p.copied k.copies k.same high (hold_what_they_see sources h.modules read h.are) ready in
    (c.clauses, h.is.linked k.top k.end k.copies c.clauses k.there k.are c.denoted, subst (λ l. AreFlattened d l c.clauses) (sym p.clause_list) c.flat)
