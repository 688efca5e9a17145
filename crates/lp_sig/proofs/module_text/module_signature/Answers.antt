use Rattle.lp_sig.specs.Abbreviations.{nothing_seen}
use Rattle.lp_sig.specs.SeenByModules.{seen_signature, seen_signatures, seen_in_module}
use Rattle.lp_sig.proofs.SeenUses.{nothing_used}
use Rattle.lp_sig.proofs.DeclaredTypes.{given_trees, given_names, given_found, given_known, given_later, typed_before, written_type}
use Rattle.lp_sig.proofs.GivenBodies.{none_given}
use Rattle.lp_sig.specs.inner.Reading.{IsReading, AreSettled}
use Rattle.lp_sig.specs.inner.Given.{GivesBodies}
use Rattle.lp_sig.specs.AsWritten.{as_trees, typed_in, bodies_of}
use Rattle.lp_sig.specs.Holding.{HoldsBodies, line_of_module}
use Rattle.lp_sig.specs.Types.{definitions_in}
use Rattle.std.proofs.Common.{◌≡◌, ◌+◌, ◌≤◌, refl, inl, inr, ⊎_elim, [], ◌∷◌, ◌++◌, ◌∙◌, length, get_or, sym, ap, subst, map, append_assoc, arith}
use Rattle.std.proofs.lemmas.Option.{get_or_from_slice_get, same_Some, slice_get-get_or, slice_get_within}
use Rattle.lp_base.specs.declared.limits.TheConstants.{END_OF_NUMBERS}
use Rattle.lp_sig.specs.Rows.{fixity_row}
use Rattle.lp_sig.specs.Knowing.{Knows, KnowsOperators}
use Rattle.lp_sig.specs.Said.{numbered, said_in}
use Rattle.lp_sig.specs.Named.{IsOrdered, MeansKinds, kind_names}
use Rattle.lp_sig.specs.declared.see.Sight.TheVariants.{Alike}
use Rattle.lp_sig.specs.declared.signature.Signature.{Signature}
use Rattle.lp_sig.specs.Sighted.{said_kinds, AreKinds, AreCounted}
use Rattle.lp_sig.specs.Sights.{AreWordsAlike, signature_words, module_words, AreAlike}
use Rattle.lp_sig.specs.Modules.{declarations, said_of, constants_of, of_each, said_in_module, constant_names, numbered_names, IsApart}
use Rattle.lp_sig.specs.Worded.{HasWords}
use Rattle.lp_sig.proofs.KnownConstants.{making_then, counted_none, counted_later}
use Rattle.lp_sig.proofs.MeantKinds.{means_at}
use Rattle.lp_sig.proofs.Sights.{all_alike}
use Rattle.lp_sig.proofs.TheirTypes.{own_kinds, own_new, their_kinds, their_room, has_named}
use Rattle.lp_sig.proofs.Told.{knows_none}
use Rattle.lp_sig.specs.inner.Telling.{AreTold, AreTypedHere}
use Rattle.lp_sig.proofs.Viewing.{seen_stays}
use Rattle.lp_lemmas.proofs.Results.{passed_up}
use Rattle.lp_sig.specs.ModuleFaults.{IsDeclarationRefusal}
use Rattle.lp_sig.specs.declared.fault.SigFault.TheVariants as fault
use Rattle.lp_sig.specs.declared.module_fault.ModuleSigFault.TheVariants as wrong
use Rattle.lp_sig.specs.Differing.{trees_here}
use Rattle.lp_sig.specs.GoingTogether.{types_of, AreOfTexts}
use Rattle.lp_sig.specs.inner.Taking.{IsTaking}
use Rattle.lp_sig.proofs.Giving.{given_bodies, given_types}
use Rattle.lp_sig.proofs.module_text.module_signature.Goals as goal

pub returns-clause-seen : goal.returns-clause-seen
returns-clause-seen c =
    let own = c.args.own.now in
    let used = c.args.used.now in
    let text = c.args.source.now in
    let lines = c.args.text.now.lines.items in
    let k : Knows c.declare_all.new.making.names (said_in_module own used text lines) =
    subst (λ n. Knows n (said_in_module own used text lines)) (sym c.declare_all.ensures.names)
    (c.in_ok-announce_all.ensures.names (said_of own ++ of_each said_of used) (c.in_ok-sights.ensures.names [] c.new-making.ensures.names)) in
    let w : HasWords c.declare_all.new.making.constants (constant_names own used text lines) =
    c.in_ok-declare_all.ensures.words (constants_of own ++ of_each constants_of used)
    (subst (λ k. HasWords k (constants_of own ++ of_each constants_of used)) (sym c.announce_all.ensures.constants) (c.in_ok-sights.ensures.words [] c.new-making.ensures.words)) in
    let o : KnowsOperators c.declare_all.new.making.operators (map fixity_row own.fixities.items) =
    subst (λ o. KnowsOperators o (map fixity_row own.fixities.items)) (sym (c.declare_all.ensures.operators ∙ c.announce_all.ensures.operators))
    (c.in_ok-sights.ensures.operators [] c.new-making.ensures.operators) in
    record {
      kinds = c.in_ok-signature.ensures.kinds ∙ ap (numbered 8) k.kinds;
      abbreviations = c.in_ok-signature.ensures.heads ∙ k.heads;
      constants = c.in_ok-signature.ensures.words ∙ ap (numbered_names 32) w.are;
      fixities = ap (λ v. map fixity_row v.items) c.in_ok-signature.ensures.fixities ∙ o.rows;
    }

pub returns-clause-theirs : goal.returns-clause-theirs
returns-clause-theirs c =
    let own = c.args.own.now in
    let used = c.args.used.now in
    let text = c.args.source.now in
    let lines = c.args.text.now.lines.items in
    let ds = declarations lines in
    let said = said_in_module own used text lines in
    let m = c.declare_all.new.making in
    let s = c.in_ok-signature.signature in
    let k : Knows m.names said = subst (λ n. Knows n said) (sym c.declare_all.ensures.names)
    (c.in_ok-announce_all.ensures.names (said_of own ++ of_each said_of used) (c.in_ok-sights.ensures.names [] c.new-making.ensures.names)) in
    let kinds = their_kinds m.names said s k c.in_ok-signature.ensures.kinds in
    let room = their_room m.names said k c.in_ok-signature.ensures.room in
    let here : IsApart own → AreKinds (said_of own) (kind_names own) = λ apart. own_kinds own (of_each said_of used ++ said_in text ds) apart
    (subst (λ r. 8 + length (said_kinds r) ≤ END_OF_NUMBERS) (append_assoc (said_of own) (of_each said_of used) (said_in text ds)) room) in
    let g = making_then c.see_all.new.making c.announce_all.new.making m c.in_ok-announce_all.ensures.grown c.in_ok-declare_all.ensures.grown in
    let none = counted_none c.new-making.result.bodies.types.bank c.new-making.result.constants c.new-making.ensures.empty in
    let alike = all_alike c.in_ok-sights.sights.items text ds (subst (λ ss. AreWordsAlike ss text (signature_words text ds) (module_words text ds) ds) c.as_slice.ensures.value
    (c.in_ok-declare_all.ensures.alike (signature_words text ds) (module_words text ds) c.in_ok-said.ensures.signatures c.in_ok-said.ensures.modules)) in
    record {
      own_ones = λ apart ordered. has_named m s said c.in_ok-signature.ensures.bank c.in_ok-signature.ensures.typed kinds own ordered
          (seen_stays c.see_all.new.making m (said_of own ++ of_each said_of used) (said_in text ds) own ordered g.bank g.constants
          (c.in_ok-sights.ensures.own [] [] c.new-making.ensures.names c.new-making.ensures.words none ordered (here apart) (own_new own apart)));
      used_kinds = λ few k d l.
          let start = knows_none c.new-making.result c.new-making.ensures.names c.new-making.ensures.words c.new-making.ensures.bodies c.new-making.ensures.empty in
          let (u, at, go) = c.in_ok-sights.ensures.told start k Alike (alike k (omega (arith, l, few))) in
          let same : u ≡ get_or used k d = same_Some u (get_or used k d) (sym at ∙ slice_get-get_or used k d l) in
          subst (λ (u : Signature). MeansKinds said u.kinds.items) same
          (means_at own used (said_in text ds) k u l (sym (get_or_from_slice_get used k u u at)) go.kinds);
      used_ones = λ apart ordered all i u at below.
          let l = slice_get_within used i u at in
          let o : IsOrdered u = subst IsOrdered (same_Some (get_or used i u) u (sym (slice_get-get_or used i u l) ∙ at)) (all i u l) in
          has_named m s said c.in_ok-signature.ensures.bank c.in_ok-signature.ensures.typed kinds u o
          (seen_stays c.see_all.new.making m (said_of own ++ of_each said_of used) (said_in text ds) u o g.bank g.constants
          (c.in_ok-sights.ensures.seen [] [] c.new-making.ensures.names c.new-making.ensures.words none ordered (here apart) (own_new own apart) all
          (i + 1) (omega (arith, l)) (λ j h. alike j (omega (arith, h, below))) i (omega arith) u at));
    }

pub returns-in_err-declare_all-clause-refused : goal.returns-in_err-declare_all-clause-refused
returns-in_err-declare_all-clause-refused c =
    let own = c.args.own.now in
    let used = c.args.used.now in
    let words = constants_of own ++ of_each constants_of used in
    let text = c.args.source.now in
    let lines = c.args.text.now.lines.items in
    let before = said_of own ++ of_each said_of used in
    let first = c.see_all.new.making in
    let mid = c.announce_all.new.making in
    let start = knows_none c.new-making.result c.new-making.ensures.names c.new-making.ensures.words c.new-making.ensures.bodies c.new-making.ensures.empty in
    let defs = as_trees (trees_here before (bodies_of own ++ of_each bodies_of used)) ++ definitions_in text (declarations lines) in
    let types = trees_here before (types_of own ++ of_each types_of used) in
    let k0 : Knows first.names before = c.in_ok-sights.ensures.names [] c.new-making.ensures.names in
    let k1 : Knows mid.names (said_in_module own used text lines) = c.in_ok-announce_all.ensures.names before k0 in
    let met : HasWords mid.constants words = subst (λ k. HasWords k words) (sym c.announce_all.ensures.constants) (c.in_ok-sights.ensures.words [] c.new-making.ensures.words) in
    let taking : AreOfTexts (own ∷ used) → IsTaking mid.names mid.bodies mid.constants (said_in_module own used text lines) defs types [] words = λ texts.
    let h = (c.in_ok-sights.ensures.stays start).kept texts in
    record {
      knows = k1;
      holds = c.in_ok-announce_all.ensures.bodies before (as_trees (trees_here before (bodies_of own ++ of_each bodies_of used))) k0
          (given_bodies before first.bodies.types.bank first.bodies.bodies.items (bodies_of own ++ of_each bodies_of used) text (line_of_module lines) h.bodies);
      met = met;
      types = given_types before first.bodies.types.bank mid.bodies.types.bank mid.constants (types_of own ++ of_each types_of used) (said_in_module own used text lines) defs c.in_ok-announce_all.ensures.grown.bank
          (subst (λ k. AreTypedHere first.bodies.types.bank k before (types_of own ++ of_each types_of used)) (sym c.announce_all.ensures.constants) h.constants);
    } in
    passed_up c.from_residual-in_err-declare_all.result c.in_err-declare_all.field-0.0
    (IsDeclarationRefusal own used c.args.source.now c.args.text.now.lines.items)
    c.from_residual-in_err-declare_all.ensures.1
    (let seen = seen_signatures (seen_signature nothing_seen own) used in
    ⊎_elim (λ m. inl m) (λ r. inr (r.0, record { names = r.1.full; types = λ texts. r.1.other defs types [] (taking texts) })) (c.in_err-declare_all.ensures.refused used (seen_in_module own used text lines) words
    (record { signatures = c.in_ok-said.ensures.signatures; modules = c.in_ok-said.ensures.modules; told = subst (AreTold (own ∷ []) used) (sym c.as_slice.ensures.value) (c.in_ok-sights.ensures.told start) })
    k1
    (c.in_ok-announce_all.ensures.uses seen k0 (c.in_ok-sights.ensures.uses nothing_seen c.new-making.ensures.names (nothing_used (map (λ out. out.items) c.new-making.result.uses.ways.items) c.new-making.ensures.uses)))
    c.in_ok-said.ensures.kinds c.in_ok-said.ensures.constants met))

pub returns-in_err-announce_all-clause-refused : goal.returns-in_err-announce_all-clause-refused
returns-in_err-announce_all-clause-refused c =
    passed_up c.from_residual-in_err-announce_all.result (wrong.Sig fault.Memory)
    (IsDeclarationRefusal c.args.own.now c.args.used.now c.args.source.now c.args.text.now.lines.items)
    c.from_residual-in_err-announce_all.ensures.1 (inl refl)

pub returns-in_err-said-clause-refused : goal.returns-in_err-said-clause-refused
returns-in_err-said-clause-refused c =
    passed_up c.from_residual-in_err-said.result (wrong.Sig fault.Memory)
    (IsDeclarationRefusal c.args.own.now c.args.used.now c.args.source.now c.args.text.now.lines.items)
    c.from_residual-in_err-said.ensures.1 (inl refl)

pub returns-in_err-signature-clause-refused : goal.returns-in_err-signature-clause-refused
returns-in_err-signature-clause-refused c =
    passed_up c.from_residual-in_err-signature.result (wrong.Sig fault.Memory)
    (IsDeclarationRefusal c.args.own.now c.args.used.now c.args.source.now c.args.text.now.lines.items)
    c.from_residual-in_err-signature.ensures.1 (inl refl)

pub returns-clause-declared : goal.returns-clause-declared
returns-clause-declared c = λ ready.
    let own = c.args.own.now in
    let used = c.args.used.now in
    let text = c.args.source.now in
    let lines = c.args.text.now.lines.items in
    let ds = declarations lines in
    let before = said_of own ++ of_each said_of used in
    let rows = bodies_of own ++ of_each bodies_of used in
    let said = said_in_module own used text lines in
    let first = c.see_all.new.making in
    let mid = c.announce_all.new.making in
    let m = c.declare_all.new.making in
    let s = c.in_ok-signature.signature in
    let start = c.new-making.result in
    let k0 : Knows first.names before = c.in_ok-sights.ensures.names [] c.new-making.ensures.names in
    let k1 : Knows mid.names said = c.in_ok-announce_all.ensures.names before k0 in
    let k : Knows m.names said = subst (λ n. Knows n said) (sym c.declare_all.ensures.names) k1 in
    let kinds = their_kinds m.names said s k c.in_ok-signature.ensures.kinds in
    let room = their_room m.names said k c.in_ok-signature.ensures.room in
    let here : AreKinds (said_of own) (kind_names own) = own_kinds own (of_each said_of used ++ said_in text ds) ready.apart
    (subst (λ r. 8 + length (said_kinds r) ≤ END_OF_NUMBERS) (append_assoc (said_of own) (of_each said_of used) (said_in text ds)) room) in
    let alike = all_alike c.in_ok-sights.sights.items text ds (subst (λ ss. AreWordsAlike ss text (signature_words text ds) (module_words text ds) ds) c.as_slice.ensures.value
    (c.in_ok-declare_all.ensures.alike (signature_words text ds) (module_words text ds) c.in_ok-said.ensures.signatures c.in_ok-said.ensures.modules)) in
    let few : AreAlike c.in_ok-sights.sights.items (length used) = λ i l. alike i (let f = ready.few in omega (arith, l, f)) in
    let none = counted_none start.bodies.types.bank start.constants c.new-making.ensures.empty in
    let counted : AreCounted first.bodies.types.bank first.constants =
    c.in_ok-sights.ensures.counted [] [] c.new-making.ensures.names c.new-making.ensures.words none ready.ordered here (own_new own ready.apart) ready.used_ordered few in
    let given : GivesBodies first.bodies.types.bank first.bodies.bodies.items before rows =
    c.in_ok-sights.ensures.given [] [] c.new-making.ensures.names (none_given start.bodies.types.bank start.bodies.bodies.items c.new-making.ensures.bodies) ready.ordered ready.whole here ready.used_ordered ready.used_whole few in
    let trees = given_trees first.bodies.types.bank first.bodies.bodies.items before rows given in
    let defs = as_trees trees ++ definitions_in text ds in
    let holds : HoldsBodies mid.bodies.types.bank mid.bodies.bodies.items said defs =
    c.in_ok-announce_all.ensures.bodies before (as_trees trees) k0 (given_known first.bodies.types.bank first.bodies.bodies.items before rows given text (line_of_module lines)) in
    let items = ap (λ v. v.items) c.declare_all.ensures.kept in
    let settled : AreSettled mid.bodies.bodies.items said = subst (λ bs. AreSettled bs said) items (c.in_ok-signature.ensures.settled said k) in
    let words = c.in_ok-sights.ensures.words [] c.new-making.ensures.words in
    let reading : IsReading mid.names mid.bodies mid.constants said defs (constants_of own ++ of_each constants_of used) = record {
      knows = k1;
      holds = holds;
      settled = settled;
      met = subst (λ k. HasWords k (constants_of own ++ of_each constants_of used)) (sym c.announce_all.ensures.constants) words;
      counted = subst (AreCounted mid.bodies.types.bank) (sym c.announce_all.ensures.constants) (counted_later first.bodies.types.bank mid.bodies.types.bank first.constants c.in_ok-announce_all.ensures.grown.bank counted);
      typed = typed_before mid.constants m.constants c.in_ok-declare_all.ensures.grown.constants c.in_ok-signature.ensures.full;
    } in
    let (end, written) = c.in_ok-declare_all.ensures.reads said defs (constants_of own ++ of_each constants_of used) reading in
    record {
      given = trees;
      are = record {
        names = given_names first.bodies.types.bank first.bodies.bodies.items before rows given;
        bodies = λ name t e. given_later before (said_in text ds) (kind_names s) rows name t kinds (given_found first.bodies.types.bank first.bodies.bodies.items before rows given name t e);
      };
      constants = λ i d l. written_type s m.bodies.types.bank m.constants said defs (get_or (typed_in text ds) i d) c.in_ok-signature.ensures.bank c.in_ok-signature.ensures.typed (written i d l);
      abbreviations = c.in_ok-signature.ensures.bodies said defs k end.holds;
    }
