use Rattle.lp_sig.specs.Abbreviations.{KnowsUses}
use Rattle.lp_sig.specs.inner.Noting.{with_unused}
use Rattle.lp_sig.proofs.SeenUses.{with_kinds, kinds_used, signature_used}
use Rattle.std.proofs.Common.{[], ◌∷◌, append-nil}
use Rattle.lp_sig.specs.Said.{names_in}
use Rattle.lp_sig.specs.Named.{named_in}
use Rattle.lp_sig.specs.Modules.{of_each, constants_of}
use Rattle.lp_sig.specs.AsWritten.{named_body}
use Rattle.lp_sig.specs.GoingTogether.{named_constant, types_of, said_with, bodies_with, types_with}
use Rattle.lp_sig.specs.inner.Telling.{KindsTell, AbbreviationsTell, ConstantsTell, AreNumberedHere, AreTypesHere, EachKind, FitsHere, CanSeeAll, CanSeeBodies, AreBodiesHere, AreTypedHere}
use Rattle.lp_sig.proofs.ToldBodies.{bodies_in_bank}
use Rattle.lp_sig.proofs.ToldSignatures.{each_more, each_names, texts_before, text_ordered, text_whole, constants_fit, bodies_fit, signature_told, can_see_bodies, can_see_constants}
use Rattle.lp_sig.specs.Rows.{Row}
use Rattle.lp_sig.specs.declared.entries.AbbreviationEntry.{AbbreviationEntry}
use Rattle.lp_sig.proofs.GivenBodies.{given_bank, given_kinds}
use Rattle.lp_sig.specs.inner.Given.{GivesBodies}
use Rattle.lp_sig.specs.AsWritten.{bodies_of}
use Rattle.std.proofs.Common.{◌≡◌, ℕ, Some, ◌++◌, ◌∙◌, sym, ap, subst, map, length, append_assoc, ⊎_elim, inl, inr}
use Rattle.std.specs.Prelude.{◌⊎◌, nat_eq, All}
use Rattle.std.specs.List.{range_with_len}
use Rattle.std.specs.Map.{lookup}
use Rattle.indexmap.specs.IndexMap.{get}
use Rattle.lp_term.specs.Nodes.{Extends, type_tree}
use Rattle.lp_term.proofs.Trees.{extends-trans}
use Rattle.lp_sig.specs.Knowing.{Knows}
use Rattle.lp_sig.specs.Modules.{kind_said, abbreviation_said, said_of}
use Rattle.lp_sig.specs.Named.{kind_names, named, kind_name, IsWhole, NamedTy}
use Rattle.lp_sig.specs.Sighted.{said_kinds, AreKinds, AreKindsHere, AreSeenTypes, AreCounted, IsCountedEntry, IsSeenEntry, AreNew, GrowsBehind}
use Rattle.lp_sig.specs.Worded.{HasWords}
use Rattle.lp_sig.specs.declared.see.Sight.TheVariants.{Alike}
use Rattle.lp_sig.proofs.KnownConstants.{counted_later}
use Rattle.lp_sig.proofs.Viewing.{left_by, seen_whole, kinds_by_then}
use Rattle.lp_sig.proofs.making.Making.see.Goals as goal

pub returns-clause-names : goal.returns-clause-names
returns-clause-names c = λ said k.
    let s = c.args.signature.now in
    subst (Knows c.see_abbreviations.new.self.names)
    (ap (λ es. (said ++ map kind_said es) ++ map abbreviation_said c.abbreviations.result.now) c.kinds.ensures ∙ ap
    (λ es. (said ++ map kind_said s.kinds.items) ++ map abbreviation_said es) c.abbreviations.ensures ∙ append_assoc said
    (map kind_said s.kinds.items) (map abbreviation_said s.abbreviations.items))
    (c.in_ok-of_abbreviations.ensures.names (said ++ map kind_said c.kinds.result.now) (c.in_ok-of_kinds.ensures.names said k))

pub returns-clause-words : goal.returns-clause-words
returns-clause-words c = λ words h.
    subst (λ es. HasWords c.see_all.new.self (words ++ map (λ e. e.name.items) es)) c.constants.ensures
    (c.in_ok-of_constants.ensures.words words (subst (λ k. HasWords k words) (sym c.see_abbreviations.ensures.constants) h))

pub returns-clause-kept : goal.returns-clause-kept
returns-clause-kept c =
    extends-trans c.args.self.now.bodies.types.bank c.see_types.new.self.bank c.see_all.new.types.bank c.see_types.ensures.kept
    (subst (λ t. Extends t.bank c.see_all.new.types.bank) c.see_abbreviations.ensures.types c.see_all.ensures.kept)

pub returns-clause-grown : goal.returns-clause-grown
returns-clause-grown c = subst (λ k. GrowsBehind k c.see_all.new.self) c.see_abbreviations.ensures.constants c.in_ok-of_constants.ensures.grown

pub returns-clause-seen : goal.returns-clause-seen
returns-clause-seen c = λ said words k h all ordered premise.
    let u = c.args.signature.now in
    let here = c.see_types.new.self.bank in
    let now = c.see_all.new.types.bank in
    let constants = c.args.self.now.constants in
    let new = c.see_all.new.self in
    let made = c.in_ok-made.made.items in
    let sk = c.in_ok-of_kinds.of_kinds in
    let sc = c.in_ok-of_constants.of_constants in
    let there = c.see_abbreviations.new.self in
    let none : (j n : ℕ) → get nat_eq c.new-numbers.result j ≡ Some n → ⊥ = λ j n f. let g = ap (lookup (λ i. nat_eq j i)) (sym c.new-numbers.ensures.empty) ∙ f in absurd (cc) in
    let of_kinds = subst (λ es. (sk ≡ Alike) ⊎ AreKinds (said ++ map kind_said es) (map (λ e. e.name.items) es) → AreKindsHere
    (said ++ map kind_said es) (map (λ e. e.name.items) es) c.see_kinds.new.kinds) c.kinds.ensures
    (c.in_ok-of_kinds.ensures.here said k (subst (λ es. map (λ e. e.number) es ≡ range_with_len 8 (length es)) (sym c.kinds.ensures) ordered.kinds) none) in
    let names = said_kinds (said ++ map kind_said u.kinds.items) in
    let known = subst (λ t. AreCounted t.bank there.constants) (sym c.see_abbreviations.ensures.types)
    (subst (AreCounted here) (sym c.see_abbreviations.ensures.constants) (counted_later c.args.self.now.bodies.types.bank here constants c.see_types.ensures.kept all)) in
    let words_then = subst (λ k. HasWords k words) (sym c.see_abbreviations.ensures.constants) h in
    let of_constants = subst (λ es. All (IsCountedEntry here made) es → AreCounted now new × ((sc ≡ Alike) ⊎ AreNew words es → All (IsSeenEntry now new made) es)) c.constants.ensures
    (subst (λ ms. All (IsCountedEntry here ms) c.constants.result.now → AreCounted now new ×
    ((sc ≡ Alike) ⊎ AreNew words c.constants.result.now → All (IsSeenEntry now new ms) c.constants.result.now)) c.as_slice-2.ensures.value
    (λ counted. c.in_ok-of_constants.ensures.seen words words_then known (subst
    (λ t. All (IsCountedEntry t.bank c.as_slice-2.result.now) c.constants.result.now) (sym c.see_abbreviations.ensures.types) counted))) in
    seen_whole u here now constants new said words made sk sc ordered
    (λ q. subst (λ b. AreSeenTypes b here (kind_names u) names made) c.bank.ensures (c.in_ok-made.ensures.seen (kind_names u) names (of_kinds q)))
    (c.in_ok-made.ensures.count ∙ ap (λ b. length b.types) c.bank.ensures)
    (subst (λ t. Extends t.bank now) c.see_abbreviations.ensures.types c.see_all.ensures.kept) of_constants
    (left_by (λ q. let last = c.and-2.ensures.alike q in ((c.and.ensures.alike last.0).0, last.1)) premise)

pub returns-clause-given : goal.returns-clause-given
returns-clause-given c = λ said rows k g ordered whole premise.
    let u = c.args.signature.now in
    let old = c.args.self.now.bodies in
    let here = c.see_types.new.self.bank in
    let made = c.in_ok-made.made.items in
    let sk = c.in_ok-of_kinds.of_kinds in
    let there = c.see_abbreviations.new.self.bodies in
    let none : (j n : ℕ) → get nat_eq c.new-numbers.result j ≡ Some n → ⊥ = λ j n f. let g = ap (lookup (λ i. nat_eq j i)) (sym c.new-numbers.ensures.empty) ∙ f in absurd (cc) in
    let of_kinds = subst (λ es. (sk ≡ Alike) ⊎ AreKinds (said ++ map kind_said es) (map (λ e. e.name.items) es) → AreKindsHere
    (said ++ map kind_said es) (map (λ e. e.name.items) es) c.see_kinds.new.kinds) c.kinds.ensures
    (c.in_ok-of_kinds.ensures.here said k (subst (λ es. map (λ e. e.number) es ≡ range_with_len 8 (length es)) (sym c.kinds.ensures) ordered.kinds) none) in
    let names = said_kinds (said ++ map kind_said u.kinds.items) in
    let alike : (sk ≡ Alike) ⊎ AreKinds (said ++ map kind_said u.kinds.items) (kind_names u) =
    ⊎_elim (λ q. inl (c.and.ensures.alike (c.and-2.ensures.alike q).0).0) (λ q. inr (kinds_by_then said u q)) premise in
    let types : AreSeenTypes u.bank here (kind_names u) names made = subst (λ b. AreSeenTypes b here (kind_names u) names made) c.bank.ensures (c.in_ok-made.ensures.seen (kind_names u) names (of_kinds alike)) in
    let kinds_then = subst (Knows c.see_kinds.new.self) (ap (λ es. said ++ map kind_said es) c.kinds.ensures) (c.in_ok-of_kinds.ensures.names said k) in
    let first = given_bank old.types.bank here old.bodies.items (said ++ map kind_said u.kinds.items) rows c.see_types.ensures.kept (given_kinds old.types.bank old.bodies.items said rows u.kinds.items g) in
    let f : AbbreviationEntry → Row NamedTy = λ e. (e.name.items, named (kind_name (kind_names u)) (type_tree u.bank e.body.0)) in
    let second = subst (λ es. All (λ e. IsWhole (named (kind_name (kind_names u)) (type_tree u.bank e.body.0))) es → GivesBodies there.types.bank there.bodies.items ((said ++ map kind_said u.kinds.items) ++ map abbreviation_said es) (rows ++ map f es)) c.abbreviations.ensures
    (c.in_ok-of_abbreviations.ensures.given u.bank (kind_names u) (said ++ map kind_said u.kinds.items) rows kinds_then first (subst (AreSeenTypes u.bank here (kind_names u) names) (sym c.as_slice.ensures.value) types)) whole in
    given_bank there.types.bank c.see_all.new.types.bank there.bodies.items (said ++ said_of u) (rows ++ bodies_of u) c.see_all.ensures.kept
    (subst (λ s. GivesBodies there.types.bank there.bodies.items s (rows ++ bodies_of u)) (append_assoc said (map kind_said u.kinds.items) (map abbreviation_said u.abbreviations.items)) second)

pub returns-clause-uses : goal.returns-clause-uses
returns-clause-uses c = λ z k u.
    let s = c.args.signature.now in
    let w = map (λ out. out.items) c.args.self.now.uses.ways.items in
    let now = with_kinds z c.kinds.result.now in
    signature_used (map (λ out. out.items) c.see_abbreviations.new.self.uses.ways.items) z s
    (subst (λ ks. KnowsUses (map (λ out. out.items) c.see_abbreviations.new.self.uses.ways.items) (with_unused (with_kinds z ks) s.abbreviations.items)) c.kinds.ensures
    (subst (λ es. KnowsUses (map (λ out. out.items) c.see_abbreviations.new.self.uses.ways.items) (with_unused now es)) c.abbreviations.ensures
    (c.in_ok-of_abbreviations.ensures.uses now (c.in_ok-of_kinds.ensures.names z.said k) (kinds_used w z c.kinds.result.now u))))

pub returns-clause-stays : goal.returns-clause-stays
returns-clause-stays c = λ before k.
    let u = c.args.signature.now in
    let old = c.args.self.now in
    let here = c.see_types.new.self.bank in
    let there = c.see_abbreviations.new.self in
    let now = c.see_all.new.types.bank in
    let made = c.in_ok-made.made.items in
    let said = of_each said_of before in
    let bodies = of_each bodies_of before in
    let typed = of_each types_of before in
    let with_kinds = said ++ map kind_said u.kinds.items in
    let assoc = append_assoc said (map kind_said u.kinds.items) (map abbreviation_said u.abbreviations.items) in
    let kinds_then : Knows c.see_kinds.new.self with_kinds = subst (Knows c.see_kinds.new.self) (ap (λ es. said ++ map kind_said es) c.kinds.ensures) (c.in_ok-of_kinds.ensures.names said k.names) in
    let none : (j n : ℕ) → get nat_eq c.new-numbers.result j ≡ Some n → ⊥ = λ j n f. let g = ap (lookup (λ i. nat_eq j i)) (sym c.new-numbers.ensures.empty) ∙ f in absurd (cc) in
    record {
      names = subst (Knows there.names) (sym (each_more said_of before u)) (returns-clause-names c said k.names);
      words = subst (HasWords c.see_all.new.self) (sym (each_more constants_of before u)) (returns-clause-words c (of_each constants_of before) k.words);
      kept = λ texts.
          let h = k.kept (texts_before before u texts) in
          let ordered = text_ordered before u texts in
          let numbers = subst (λ es. map (λ e. e.number) es ≡ range_with_len 8 (length es) → AreNumberedHere (said ++ map kind_said es) (map (λ e. e.name.items) es) c.see_kinds.new.kinds) c.kinds.ensures
          (λ ns. c.in_ok-of_kinds.ensures.numbers said k.names ns none) ordered.kinds in
          let types : AreTypesHere u.bank here (kind_names u) with_kinds made = subst (λ b. AreTypesHere b here (kind_names u) with_kinds made) c.bank.ensures (c.in_ok-made.ensures.told with_kinds (kind_names u) numbers) in
          let can_bodies = subst (CanSeeBodies here old.bodies.bodies.items u with_kinds bodies c.as_slice.result.now) (sym c.abbreviations.ensures)
          (subst (λ ms. CanSeeBodies here old.bodies.bodies.items u with_kinds bodies ms u.abbreviations.items) (sym c.as_slice.ensures.value)
          (can_see_bodies u old.bodies.types.bank here said bodies made c.see_types.ensures.kept types old.bodies.bodies.items h.bodies (text_whole before u texts))) in
          let can_constants = subst (λ x. CanSeeAll x.bank there.constants u (said ++ said_of u) typed c.as_slice-2.result.now c.constants.result.now) (sym c.see_abbreviations.ensures.types)
          (subst (λ x. CanSeeAll here x u (said ++ said_of u) typed c.as_slice-2.result.now c.constants.result.now) (sym c.see_abbreviations.ensures.constants)
          (subst (λ ms. CanSeeAll here old.constants u (said ++ said_of u) typed ms c.constants.result.now) (sym c.as_slice-2.ensures.value)
          (subst (CanSeeAll here old.constants u (said ++ said_of u) typed made) (sym c.constants.ensures)
          (can_see_constants u old.bodies.types.bank here said typed made c.see_types.ensures.kept types old.constants (of_each constants_of before) (sym (each_names before)) k.words h.constants ordered)))) in
          let given = c.in_ok-of_abbreviations.ensures.here u with_kinds bodies kinds_then can_bodies in
          let all = subst (λ es. AreBodiesHere there.bodies.types.bank there.bodies.bodies.items (with_kinds ++ map abbreviation_said es) (bodies ++ map (named_body u) es)) c.abbreviations.ensures given in
          let said_all = subst (λ s. AreBodiesHere there.bodies.types.bank there.bodies.bodies.items s (bodies ++ bodies_of u)) (assoc ∙ sym (each_more said_of before u)) all in
          let constants = subst (λ es. AreTypedHere now c.see_all.new.self (said ++ said_of u) (typed ++ map (named_constant u) es)) c.constants.ensures (c.in_ok-of_constants.ensures.here u (said ++ said_of u) typed can_constants) in
          record {
            bodies = bodies_in_bank there.bodies.types.bank now there.bodies.bodies.items (of_each said_of (before ++ u ∷ [])) (of_each bodies_of (before ++ u ∷ [])) c.see_all.ensures.kept
                (subst (AreBodiesHere there.bodies.types.bank there.bodies.bodies.items (of_each said_of (before ++ u ∷ []))) (sym (each_more bodies_of before u)) said_all);
            constants = subst (AreTypedHere now c.see_all.new.self (of_each said_of (before ++ u ∷ []))) (sym (each_more types_of before u))
                (subst (λ s. AreTypedHere now c.see_all.new.self s (typed ++ types_of u)) (sym (each_more said_of before u)) constants);
          };
    }

pub returns-clause-told : goal.returns-clause-told
returns-clause-told c = λ before k.
    let u = c.args.signature.now in
    let old = c.args.self.now in
    let here = c.see_types.new.self.bank in
    let there = c.see_abbreviations.new.self in
    let now = c.see_all.new.types.bank in
    let made = c.in_ok-made.made.items in
    let said = of_each said_of before in
    let bodies = of_each bodies_of before in
    let typed = of_each types_of before in
    let with_kinds = said ++ map kind_said u.kinds.items in
    let assoc = append_assoc said (map kind_said u.kinds.items) (map abbreviation_said u.abbreviations.items) in
    let kinds_then : Knows c.see_kinds.new.self with_kinds = subst (Knows c.see_kinds.new.self) (ap (λ es. said ++ map kind_said es) c.kinds.ensures) (c.in_ok-of_kinds.ensures.names said k.names) in
    let none : (j n : ℕ) → get nat_eq c.new-numbers.result j ≡ Some n → ⊥ = λ j n f. let g = ap (lookup (λ i. nat_eq j i)) (sym c.new-numbers.ensures.empty) ∙ f in absurd (cc) in
    let sk = c.in_ok-of_kinds.of_kinds in
    let first = subst (λ es. KindsTell ((said ++ map kind_said es) ++ []) es sk) c.kinds.ensures (c.in_ok-of_kinds.ensures.told said [] k.names) in
    let kinds_told : KindsTell with_kinds u.kinds.items sk = subst (λ w. KindsTell w u.kinds.items sk) (append-nil with_kinds) first in
    let all_told : KindsTell (said_with before u) u.kinds.items sk = subst (λ w. KindsTell w u.kinds.items sk) assoc
    (subst (λ es. KindsTell ((said ++ map kind_said es) ++ map abbreviation_said u.abbreviations.items) es sk) c.kinds.ensures (c.in_ok-of_kinds.ensures.told said (map abbreviation_said u.abbreviations.items) k.names)) in
    signature_told before u sk all_told c.in_ok-of_abbreviations.of_abbreviations c.in_ok-of_constants.of_constants
    (λ alike texts.
    let h = k.kept (texts_before before u texts) in
    let ordered = text_ordered before u texts in
    let numbers = subst (λ es. map (λ e. e.number) es ≡ range_with_len 8 (length es) → AreNumberedHere (said ++ map kind_said es) (map (λ e. e.name.items) es) c.see_kinds.new.kinds) c.kinds.ensures
    (λ ns. c.in_ok-of_kinds.ensures.numbers said k.names ns none) ordered.kinds in
    let types : AreTypesHere u.bank here (kind_names u) with_kinds made = subst (λ b. AreTypesHere b here (kind_names u) with_kinds made) c.bank.ensures (c.in_ok-made.ensures.told with_kinds (kind_names u) numbers) in
    let can_bodies = subst (CanSeeBodies here old.bodies.bodies.items u with_kinds bodies c.as_slice.result.now) (sym c.abbreviations.ensures)
    (subst (λ ms. CanSeeBodies here old.bodies.bodies.items u with_kinds bodies ms u.abbreviations.items) (sym c.as_slice.ensures.value)
    (can_see_bodies u old.bodies.types.bank here said bodies made c.see_types.ensures.kept types old.bodies.bodies.items h.bodies (text_whole before u texts))) in
    let can_constants = subst (λ x. CanSeeAll x.bank there.constants u (said ++ said_of u) typed c.as_slice-2.result.now c.constants.result.now) (sym c.see_abbreviations.ensures.types)
    (subst (λ x. CanSeeAll here x u (said ++ said_of u) typed c.as_slice-2.result.now c.constants.result.now) (sym c.see_abbreviations.ensures.constants)
    (subst (λ ms. CanSeeAll here old.constants u (said ++ said_of u) typed ms c.constants.result.now) (sym c.as_slice-2.ensures.value)
    (subst (CanSeeAll here old.constants u (said ++ said_of u) typed made) (sym c.constants.ensures)
    (can_see_constants u old.bodies.types.bank here said typed made c.see_types.ensures.kept types old.constants (of_each constants_of before) (sym (each_names before)) k.words h.constants ordered)))) in
    let fits = subst (All (λ e. EachKind (FitsHere with_kinds) (named_in u e.body))) (sym c.abbreviations.ensures) (bodies_fit with_kinds u (subst (KindsTell with_kinds u.kinds.items) alike kinds_told) (text_whole before u texts)) in
    subst (λ w. AbbreviationsTell w (bodies_with before u) u u.abbreviations.items c.in_ok-of_abbreviations.of_abbreviations) assoc
    (subst (λ es. AbbreviationsTell (with_kinds ++ map abbreviation_said es) (bodies ++ map (named_body u) es) u es c.in_ok-of_abbreviations.of_abbreviations) c.abbreviations.ensures
    (c.in_ok-of_abbreviations.ensures.told u with_kinds bodies kinds_then can_bodies fits)))
    (λ alike texts.
    let h = k.kept (texts_before before u texts) in
    let ordered = text_ordered before u texts in
    let numbers = subst (λ es. map (λ e. e.number) es ≡ range_with_len 8 (length es) → AreNumberedHere (said ++ map kind_said es) (map (λ e. e.name.items) es) c.see_kinds.new.kinds) c.kinds.ensures
    (λ ns. c.in_ok-of_kinds.ensures.numbers said k.names ns none) ordered.kinds in
    let types : AreTypesHere u.bank here (kind_names u) with_kinds made = subst (λ b. AreTypesHere b here (kind_names u) with_kinds made) c.bank.ensures (c.in_ok-made.ensures.told with_kinds (kind_names u) numbers) in
    let can_bodies = subst (CanSeeBodies here old.bodies.bodies.items u with_kinds bodies c.as_slice.result.now) (sym c.abbreviations.ensures)
    (subst (λ ms. CanSeeBodies here old.bodies.bodies.items u with_kinds bodies ms u.abbreviations.items) (sym c.as_slice.ensures.value)
    (can_see_bodies u old.bodies.types.bank here said bodies made c.see_types.ensures.kept types old.bodies.bodies.items h.bodies (text_whole before u texts))) in
    let can_constants = subst (λ x. CanSeeAll x.bank there.constants u (said ++ said_of u) typed c.as_slice-2.result.now c.constants.result.now) (sym c.see_abbreviations.ensures.types)
    (subst (λ x. CanSeeAll here x u (said ++ said_of u) typed c.as_slice-2.result.now c.constants.result.now) (sym c.see_abbreviations.ensures.constants)
    (subst (λ ms. CanSeeAll here old.constants u (said ++ said_of u) typed ms c.constants.result.now) (sym c.as_slice-2.ensures.value)
    (subst (CanSeeAll here old.constants u (said ++ said_of u) typed made) (sym c.constants.ensures)
    (can_see_constants u old.bodies.types.bank here said typed made c.see_types.ensures.kept types old.constants (of_each constants_of before) (sym (each_names before)) k.words h.constants ordered)))) in
    let fits = subst (All (λ e. EachKind (FitsHere (said_with before u)) (named_in u e.scheme))) (sym c.constants.ensures) (constants_fit (said_with before u) u (subst (KindsTell (said_with before u) u.kinds.items) alike all_told) ordered) in
    subst (λ ws. ConstantsTell ws (types_with before u) u u.constants.items c.in_ok-of_constants.of_constants) (each_names before)
    (subst (λ es. ConstantsTell (names_in typed) (typed ++ map (named_constant u) es) u es c.in_ok-of_constants.of_constants) c.constants.ensures
    (c.in_ok-of_constants.ensures.told u (said ++ said_of u) typed can_constants fits)))
    c.and.result c.and-2.result c.and.ensures.first c.and-2.ensures.first
