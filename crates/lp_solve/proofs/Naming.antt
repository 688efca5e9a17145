-- The names of a query's variables and the constants of a program, one more at a time.
use Rattle.std.proofs.Common.{◌≡◌, ℕ, ◌+◌, ◌<◌, ◌≤◌, List, [], ◌∷◌, ◌++◌, map, take, drop, length, get_or, sym, ap, ◌∙◌, add-one, append_assoc, append-nil}
use Rattle.std.proofs.lemmas.List.{take_all, drop_all}
use Rattle.std.proofs.lemmas.Option.{slice_get-get_or}
use Rattle.lp_lemmas.proofs.Lists.{drop_read, map_pushed, take_suc}
use Rattle.lp_base.specs.declared.place.Spot.{Spot}
use Rattle.lp_term.specs.declared.node.TypeId.{TypeId}
use Rattle.lp_model.specs.Shown.{Entry}
use Rattle.lp_show.specs.Glossary.{entries_of, entry_of}
use Rattle.lp_show.specs.declared.glossary.Entry as code
use Rattle.lp_sig.specs.Pieces.{spelled}
use Rattle.lp_sig.specs.declared.signature.Signature.{Signature}
use Rattle.lp_module.specs.declared.copies.GlobalName.{GlobalName}
use Rattle.lp_solve.specs.Shown.{constant_shown, constants_shown, following}

pub names_more : (text : List ℕ) (vars : List (Spot × TypeId)) (at : ℕ) (d : Spot × TypeId) (done all : List (List ℕ)) → at < length vars → done ≡ map
    (spelled text) (map (λ v. v.0) (take at vars)) → all ≡ done ++ spelled text (get_or vars at d).0 ∷ []
    → all ≡ map (spelled text) (map (λ v. v.0) (take (at + 1) vars))
names_more text vars at d done all h e a =
    let v = get_or vars at d in
    let more : take (at + 1) vars ≡ take at vars ++ v ∷ [] = ap (λ n. take n vars) (add-one at) ∙ take_suc vars at v (slice_get-get_or vars at d h) in
    a ∙ (ap (λ z. z ++ spelled text v.0 ∷ []) e
    ∙ sym (map_pushed (spelled text) (map (λ v. v.0) (take at vars)) (map (λ v. v.0) (take (at + 1) vars)) v.0 (map_pushed (λ v. v.0) (take at vars) (take (at + 1) vars) v more)))

pub names_end : (text : List ℕ) (vars : List (Spot × TypeId)) (at : ℕ) (all : List (List ℕ)) → length vars ≤ at → all ≡ map (spelled text)
    (map (λ v. v.0) (take at vars)) → all ≡ map (spelled text) (map (λ v. v.0) vars)
names_end text vars at all h e = e ∙ ap (λ z. map (spelled text) (map (λ v. v.0) z)) (take_all at vars h)

module _ (s : Signature) (all : List GlobalName) where
  -- the entries so far, and those that are left to put
  abbrev pub IsLeft : (at number : ℕ) → List code.Entry → Type 0
  IsLeft at number entries = entries_of entries ++ constants_shown s number (drop at all) ≡ constants_shown s 32 all

  pub entries_more : (at number next : ℕ) (c : GlobalName) (e : code.Entry) (before entries : List code.Entry) → at < length all → c ≡ get_or all at c
      → entry_of e ≡ constant_shown s number c → entries ≡ before ++ e ∷ [] → next ≡ following number → IsLeft at number before → IsLeft (at + 1) next
      entries
  entries_more at number next c e before entries l is shown more n h =
      let rest = drop (at + 1) all in
      ap (λ es. entries_of es ++ constants_shown s next rest) more ∙ ap (λ es. es ++ constants_shown s next rest) (map_pushed entry_of before (before ++ e ∷ []) e (λ i. before ++ e ∷ [])) ∙
      append_assoc (entries_of before) (entry_of e ∷ []) (constants_shown s next rest) ∙
      ap (λ x. entries_of before ++ x ∷ constants_shown s next rest) shown ∙
      ap (λ k. entries_of before ++ constant_shown s number c ∷ constants_shown s k rest) n ∙
      ap (λ cs. entries_of before ++ constants_shown s number cs) (sym (drop_read all at c l is)) ∙ h

  pub entries_end : (at number : ℕ) (entries : List code.Entry) → length all ≤ at → IsLeft at number entries → entries_of entries ≡ constants_shown s 32 all
  entries_end at number entries l h = sym (append-nil (entries_of entries)) ∙ ap (λ cs. entries_of entries ++ constants_shown s number cs) (sym (drop_all at all l)) ∙ h
