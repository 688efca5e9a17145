-- Texts have one signature: the same steps, kinds, constants and types.
use Rattle.std.specs.Global.{Global}
use Rattle.std.proofs.Common.{◌≡◌, ℕ, suc, List, [], ◌∷◌, ◌++◌, map, refl, sym, ap, subst, ◌∙◌, Bool, true≢false, append_assoc}
use Rattle.std.specs.Prelude.{String, Vec}
use Rattle.std.proofs.lemmas.List.{append-nil}
use Rattle.lp_calculus.specs.Types.{Ty}
use Rattle.lp_standard.specs.declared.fixity.Fixity.{Fixity}
use Rattle.lp_syntax.specs.declared.text.SignatureText.{SignatureText}
use Rattle.lp_term.specs.Nodes.{Nodes, type_tree}
use Rattle.lp_sig.specs.Rows.{Row, kind_row}
use Rattle.lp_sig.specs.Said.{said_in, numbered, kinds_among, declared_names, of_steps}
use Rattle.lp_sig.specs.Types.{definitions_in}
use Rattle.lp_sig.specs.Loading.{Way, Loads, LoadsAll, again, first, none, next}
use Rattle.lp_sig.specs.Abbreviations.{Seen, nothing_seen, Text, one_text, seen_text, seen_after}
use Rattle.lp_sig.specs.Constants.{Written, IsConstant, AreInStep, declared_constants}
use Rattle.lp_sig.specs.Laws.{all_said, all_definitions}
use Rattle.lp_sig.specs.Refusals.{IsAccepted, ways, seen_in}
use Rattle.lp_sig.specs.Refusals.{constants_of as constants_of_steps}
use Rattle.lp_sig.specs.Same.{typed_row, AreSameSignatures}
use Rattle.lp_sig.specs.declared.entries.ConstantEntry.{ConstantEntry}
use Rattle.lp_sig.specs.declared.signature.Signature.{Signature}
use Rattle.lp_sig.specs.declared.walk.Step.{Step}
use Rattle.lp_sig.specs.declared.walk.Step.TheVariants.{Enter, Declare}
use Rattle.lp_sig.proofs.Agreeing.{texts_agree}
use Rattle.lp_sig.proofs.OneScheme.{one_scheme}

-- one order of loading
parts : (v w : Way) (vs ws : List Way) → v ∷ vs ≡ w ∷ ws → (v ≡ w) × (vs ≡ ws)
parts v w vs ws e = (cc, cc)

mutual
  one_load : (W : List (List Way)) {old new end : List Bool} {i : ℕ} {s t : List Step} → Loads W old i s new → Loads W old i t end → (s ≡ t) × (new ≡ end)
  one_load W (again m e n) (again k f p) = (e ∙ sym f, n ∙ sym p)
  one_load W (again m e n) (first k inner l f) = absurd (true≢false (sym m ∙ k))
  one_load W (first m inner l e) (again k f p) = absurd (true≢false (sym k ∙ m))
  one_load W {i = i} (first m inner l e) (first k other r f) =
      let x = one_loads W l r in
      (e ∙ ap (λ b. Enter i ∷ (b ++ Declare i ∷ [])) x.0 ∙ sym f, x.1)

  one_loads : (W : List (List Way)) {old new end : List Bool} {words : List Way} {s t : List Step} → LoadsAll W old words s new → LoadsAll W old words t end → (s ≡ t) × (new ≡ end)
  one_loads W (none w e n) (none v f p) = (e ∙ sym f, n ∙ sym p)
  one_loads W (none w e n) (next v more at mid a b l r f) = absurd (cc)
  one_loads W (next v more at mid a b l r f) (none w e n) = absurd (cc)
  one_loads W {old = old} {end = end} (next v more at mid a b l r e) (next w rest there half c d x y f) =
      let p = parts v w more rest (sym at ∙ there) in
      let u = one_load W l (subst (λ v. Loads W old v.1 c half) (sym p.0) x) in
      let z = one_loads W r (subst (λ m. LoadsAll W m more d end) (sym u.1) (subst (λ ws. LoadsAll W half ws d end) (sym p.1) y)) in
      (e ∙ (λ i. u.0 i ++ z.0 i) ∙ sym f, z.1)

-- what texts say together
pub said_together : (z : Seen) (ts : List Text) → ((seen_after z ts).said ≡ z.said ++ all_said ts) × ((seen_after z ts).definitions ≡ z.definitions ++ all_definitions ts)
said_together z [] = (sym (append-nil z.said), sym (append-nil z.definitions))
said_together z (t ∷ ts) =
    let h = said_together (seen_text z t.0 t.1) ts in
    (h.0 ∙ append_assoc z.said (said_in t.0 t.1) (all_said ts), h.1 ∙ append_assoc z.definitions (definitions_in t.0 t.1) (all_definitions ts))

-- the same entries
row_is : (b : Nodes) (e : ConstantEntry) (name : List ℕ) (n k : ℕ) (T : Ty) → e.name.items ≡ name → e.number ≡ n → e.type_vars ≡ k → type_tree b e.scheme.0 ≡ T → typed_row b e ≡ (name, (n, k, T))
row_is b e name n k T f g h j = λ i. (f i, (g i, h i, j i))

same_entries : (ts : List Text) (b c : Nodes) (n : ℕ) (rows : List (Row Written)) (es fs : List ConstantEntry) → AreInStep
    (IsConstant b (all_said ts) (all_definitions ts)) n rows es → AreInStep (IsConstant c (all_said ts) (all_definitions ts)) n rows fs →
    map (typed_row b) es ≡ map (typed_row c) fs
same_entries ts b c n [] [] [] h k = refl
same_entries ts b c n [] [] (f ∷ fs) h k = absurd k
same_entries ts b c n [] (e ∷ es) fs h k = absurd h
same_entries ts b c n (r ∷ rs) [] fs h k = absurd h
same_entries ts b c n (r ∷ rs) (e ∷ es) [] h k = absurd k
same_entries ts b c n (r ∷ rs) (e ∷ es) (f ∷ fs) (h, hs) (k, ks) =
    let o = one_scheme (all_said ts) (all_definitions ts) (texts_agree ts) r.1 e.type_vars f.type_vars (type_tree b e.scheme.0) (type_tree c f.scheme.0) h.scheme k.scheme in
    λ i. (row_is b e r.0 n f.type_vars (type_tree c f.scheme.0) h.name h.number o.0 o.1 ∙ sym
    (row_is c f r.0 n f.type_vars (type_tree c f.scheme.0) k.name k.number refl refl)) i ∷ same_entries ts b c (suc n) rs es fs hs ks i

pub one_signature : (names : List (String Global)) (sources : List (Vec ℕ Global)) (texts : List SignatureText) (root : ℕ) (fixities others : List (Row (Fixity × ℕ))) (s t : Signature) →
    IsAccepted names sources texts root (map kind_row s.kinds.items) fixities s.bank s.abbreviations.items s.constants.items → IsAccepted names
    sources texts root (map kind_row t.kinds.items) others t.bank t.abbreviations.items t.constants.items → AreSameSignatures s t
one_signature names sources texts root fixities others s t x y =
    let W = ways names sources texts in
    let order = one_load W x.loaded.order.1 y.loaded.order.1 in
    let same : y.steps ≡ x.steps = sym order.0 in
    let ts = of_steps one_text sources texts x.steps in
    let together = said_together nothing_seen ts in
    let rows = declared_constants (constants_of_steps names sources texts x.steps) in
    let here = subst (λ said. AreInStep (IsConstant s.bank said (all_definitions ts)) 32 rows s.constants.items) together.0
    (subst (λ defs. AreInStep (IsConstant s.bank (seen_in names sources texts x.steps).said defs) 32 rows s.constants.items) together.1
    x.constants_are) in
    let there_steps = subst (λ ss. AreInStep (IsConstant t.bank (seen_in names sources texts ss).said (seen_in names sources texts ss).definitions) 32
    (declared_constants (constants_of_steps names sources texts ss)) t.constants.items) same y.constants_are in
    let there = subst (λ said. AreInStep (IsConstant t.bank said (all_definitions ts)) 32 rows t.constants.items) together.0
    (subst (λ defs. AreInStep (IsConstant t.bank (seen_in names sources texts x.steps).said defs) 32 rows t.constants.items) together.1
    there_steps) in
    record {
      kinds = x.kinds_are ∙ ap (λ ss. numbered 8 (kinds_among (declared_names (seen_in names sources texts ss).said))) (sym same) ∙ sym y.kinds_are;
      constants = same_entries ts s.bank t.bank 32 rows s.constants.items t.constants.items here there;
    }
