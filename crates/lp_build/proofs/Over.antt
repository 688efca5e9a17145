-- The clauses of the modules of texts hold no kinds and constants that these do not see.
use Rattle.std.proofs.Common.{◌≡◌, ℕ, suc, ◌+◌, ◌<◌, ◌≤◌, List, [], ◌∷◌, ◌++◌, map, length, Some, Bool, true, false, refl, sym, ap, ◌∙◌, subst, cond, arith}
use Rattle.std.specs.Prelude.{slice_get, All, Contains}
use Rattle.std.specs.Str.{bytes_eq}
use Rattle.std.proofs.lemmas.List.{length-map}
use Rattle.std.proofs.lemmas.List.Elements.{All-head, All-tail}
use Rattle.std.proofs.lemmas.Option.{same_Some, slice_get_within, slice_get-get_or}
use Rattle.lp_lemmas.specs.Each.{EachOf}
use Rattle.lp_lemmas.proofs.Each.{each_append}
use Rattle.lp_calculus.specs.Types.{Ty, Tys, var, param as type_param, con, arrow, no_types, types}
use Rattle.lp_syntax.specs.declared.text.ModuleText.{ModuleText}
use Rattle.lp_syntax.specs.declared.text.Sentence.{Sentence}
use Rattle.lp_syntax.specs.declared.text.SignatureText.{SignatureText}
use Rattle.lp_term.specs.Nodes.{type_tree}
use Rattle.lp_sig.specs.AsWritten.{AreReady, DeclaresAsWritten}
use Rattle.lp_sig.specs.Modules.{HasSeen, said_in_module}
use Rattle.lp_sig.specs.Named.{kind_name, kind_names}
use Rattle.lp_sig.specs.Rows.{Row, found, abbreviation_row, kind_row}
use Rattle.lp_sig.specs.Said.{declared_names, kinds_among, numbered}
use Rattle.lp_sig.specs.Standard.{standard_kinds}
use Rattle.lp_sig.specs.declared.entries.AbbreviationEntry.{AbbreviationEntry}
use Rattle.lp_sig.specs.declared.signature.Signature.{Signature}
use Rattle.lp_sig.proofs.OrderedSignatures.{AllKindsKnown, KindsKnown}
use Rattle.lp_module.specs.Sentences.{said}
use Rattle.lp_module.specs.declared.module.Module.{Module}
use Rattle.lp_module.proofs.NumberedSignatures.{signature_numbered}
use Rattle.lp_build.specs.Meant.{AreModules, IsModuleAt}
use Rattle.lp_build.specs.Reads.{AreRead}
use Rattle.lp_build.specs.Ready.{AreTypesOver, HoldWhatTheySee, HoldsWhatItSees, IsTypeOver}
use Rattle.lp_build.specs.Refused.{AreWhole}
use Rattle.lp_build.specs.SameNames.{HasOwnTypes}
use Rattle.lp_build.specs.declared.sources.Sources.{Sources}
use Rattle.lp_build.specs.declared.texts.Group.{Group}
use Rattle.lp_build.proofs.Joined.{meaning_at}
use Rattle.lp_build.proofs.OverTerms.{LiesBelow, formulas_over}
use Rattle.lp_build.proofs.OwnTypes.{kind_over, own_types}
use Rattle.lp_build.proofs.SeenBodies.{bodies_known}
use Rattle.lp_build.proofs.TextModules.{as_written, meant_ready, texts_are}

-- what is found by a name
found_each : {A : Type 0} (P : A → Type 0) (w : List ℕ) (rows : List (Row A)) (a : A) → EachOf (λ r. P r.1) rows → found w rows ≡ Some a → P a
found_each P w [] a h e = absurd (cc)
found_each {A} P w (r ∷ rs) a (g, h) e = by (bytes_eq w r.0) (found_each P w rs a h) e
  where
    by : (t : Bool) → (found w rs ≡ Some a → P a) → cond t (Some r.1) (found w rs) ≡ Some a → P a
    by true later f = subst P (same_Some r.1 a f) g
    by false later f = later f

numbered_below : (n K : ℕ) (rows : List (Row ℕ)) → n + length rows ≤ K → EachOf (λ r. r.1.0 < K) (numbered n rows)
numbered_below n K [] l = tt
numbered_below n K (r ∷ rs) l = (omega (arith, l), numbered_below (suc n) K rs (omega (arith, l)))

numbered_length : (n : ℕ) (rows : List (Row ℕ)) → length (numbered n rows) ≡ length rows
numbered_length n [] = refl
numbered_length n (r ∷ rs) = ap (λ k. suc k) (numbered_length (suc n) rs)

-- a constant has its number by its place
pub contained_at : {A : Type 0} (xs : List A) (x : A) → Contains xs x → (i : ℕ) × (slice_get xs i ≡ Some x)
contained_at xs x (i, l, e) = (i, slice_get-get_or xs i x l ∙ ap (λ y. Some y) e)

module _ (s : Signature) where
  mutual
    known_over : (T : Ty) → KindsKnown (kind_name (kind_names s)) T → IsTypeOver (8 + length s.kinds.items) T
    known_over (var i) h = tt
    known_over (type_param k) h = tt
    known_over (con k ts) ((w, e), h) = (kind_over s k w e, all_known_over ts h)
    known_over (arrow a b) (g, h) = (known_over a g, known_over b h)

    all_known_over : (ts : Tys) → AllKindsKnown (kind_name (kind_names s)) ts → AreTypesOver (8 + length s.kinds.items) ts
    all_known_over no_types h = tt
    all_known_over (types t ts) (g, h) = (known_over t g, all_known_over ts h)

  bodies_over : (es : List AbbreviationEntry) → All (λ e. KindsKnown (kind_name (kind_names s)) (type_tree s.bank e.body.0)) es →
      EachOf (λ r. IsTypeOver (8 + length s.kinds.items) (type_tree s.bank r.1.1)) (map abbreviation_row es)
  bodies_over [] h = tt
  bodies_over (e ∷ es) h = (
    known_over (type_tree s.bank e.body.0) (All-head (λ e. KindsKnown (kind_name (kind_names s)) (type_tree s.bank e.body.0)) e es h),
    bodies_over es (All-tail (λ e. KindsKnown (kind_name (kind_names s)) (type_tree s.bank e.body.0)) e es h),
  )

-- the names of a module
pub lies_below : (own : Signature) (used : List Signature) (text : List ℕ) (lines : List Sentence) (m : Module) → AreReady own used text lines → HasSeen own used text lines m.signature →
    DeclaresAsWritten own used text lines m.signature → HasOwnTypes m → LiesBelow (8 + length m.signature.kinds.items) (32 + length m.signature.constants.items) m.signature
lies_below own used text lines m ready seen d own_ones =
    let s = m.signature in
    let K = 8 + length s.kinds.items in
    let rows = kinds_among (declared_names (said_in_module own used text lines)) in
    let many : length s.kinds.items ≡ length rows = sym (length-map s.kinds.items kind_row) ∙ ap length seen.kinds ∙ numbered_length 8 rows in
    let numbered_kinds = subst (EachOf (λ r. r.1.0 < K)) (sym seen.kinds) (numbered_below 8 K rows (omega (arith, many))) in
    let all_kinds = each_append (λ r. r.1.0 < K) standard_kinds (map kind_row s.kinds.items) (omega arith, (omega arith, (omega arith, (omega arith, tt)))) numbered_kinds in
    record {
      language_kinds = omega arith;
      language_constants = omega arith;
      kinds = λ w r e. found_each (λ r. r.0 < K) w (standard_kinds ++ map kind_row s.kinds.items) r all_kinds e;
      bodies = λ w a e.
          found_each (λ a. IsTypeOver K (type_tree s.bank a.1)) w (map abbreviation_row s.abbreviations.items) a (bodies_over s s.abbreviations.items (bodies_known own used text lines s ready seen d)) e;
      schemes = λ e c. let (i, l, is) = c in own_ones i e (l, is);
      numbers = λ e c.
          let (i, at) = contained_at s.constants.items e c in
          let number = ((signature_numbered own used text lines s seen).constants i e at).0 in
          let l = slice_get_within s.constants.items i e at in
          omega (arith, number, l);
    }

module _ (sources : Sources) (g : Group SignatureText) (t : Group ModuleText) (read : AreRead sources) (texts : AreWhole sources g t) (place : ℕ) where
  pub holds_what_it_sees : (m : Module) → IsModuleAt sources.files.items g t place m → HoldsWhatItSees m
  holds_what_it_sees m is =
      let below = lies_below is.own is.used is.source.items is.text.lines.items m (meant_ready sources g t read texts place m is) is.meaning.names
      (as_written sources g t read texts place m is) (own_types sources g t read texts place m is) in
      formulas_over (8 + length m.signature.kinds.items) (32 + length m.signature.constants.items) m.signature below is.source.items m.bank (said is.text.lines.items) m.clauses.items is.meaning.sentences

module _ (sources : Sources) (modules : List Module) (read : AreRead sources) (are : AreModules sources modules) where
  pub hold_what_they_see : HoldWhatTheySee modules
  hold_what_they_see k m at =
      let (p, is) = meaning_at sources modules read are k m at in holds_what_it_sees sources are.signatures are.texts read (texts_are sources modules read are) p m is
