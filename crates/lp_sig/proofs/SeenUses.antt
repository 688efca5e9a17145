-- What abbreviations use is known along the signatures that a module sees, and along its sentences.
use Rattle.std.proofs.Common.{◌≡◌, ℕ, ◌+◌, ◌<◌, List, [], ◌∷◌, ◌++◌, length, map, get_or, take, drop, refl, sym, ap, subst, ◌∙◌, append_assoc, append-nil}
use Rattle.std.proofs.lemmas.List.{take-append-drop}
use Rattle.lp_syntax.specs.declared.text.Declaration.{Declaration}
use Rattle.lp_syntax.specs.declared.text.RawTerm.{RawTerm}
use Rattle.lp_syntax.specs.declared.text.Sentence.{Sentence}
use Rattle.lp_syntax.specs.declared.text.Sentence.TheVariants.{Declares, Says}
use Rattle.lp_sig.specs.Abbreviations.{Seen, nothing_seen, abbreviation_names, bodies_by, bodies_in, one_body, seen_line, seen_text, KnowsUses}
use Rattle.lp_sig.specs.Knowing.{Knows}
use Rattle.lp_sig.specs.Loading.{Way}
use Rattle.lp_sig.specs.Modules.{declarations, of_each, kind_said, abbreviation_said, said_of}
use Rattle.lp_sig.specs.Rows.{Row}
use Rattle.lp_sig.specs.Said.{Said, said_by, said_in, abbreviations_among}
use Rattle.lp_sig.specs.SeenByModules.{unused, unused_of, seen_signature, seen_signatures}
use Rattle.lp_sig.specs.inner.Noting.{with_unused, seen_lines}
use Rattle.lp_sig.specs.declared.entries.AbbreviationEntry.{AbbreviationEntry}
use Rattle.lp_sig.specs.declared.entries.KindEntry.{KindEntry}
use Rattle.lp_sig.specs.declared.names.Names.{Names}
use Rattle.lp_sig.specs.declared.signature.Signature.{Signature}
use Rattle.lp_sig.proofs.Abbreviating.{quiet_rows, bodies_append}
use Rattle.lp_sig.proofs.Sayings.{declared_append, lines_more, signatures_more}
use Rattle.lp_sig.proofs.Spoken.{said_append}
use Rattle.lp_sig.proofs.Worded.{mapped_at}

-- nothing was seen
pub nothing_used : (uses : List (List Way)) → uses ≡ [] → KnowsUses uses nothing_seen
nothing_used uses none = record { are = none; has = λ n e. e; said = λ n e. e }

-- the abbreviations of a signature, behind its kinds
pub none_unused : (uses : List (List Way)) (z : Seen) → KnowsUses uses z → KnowsUses uses (with_unused z [])
none_unused uses z k =
    subst (λ a. KnowsUses uses (record { said = a; definitions = z.definitions; bodies = z.bodies ++ [] })) (sym (append-nil z.said))
    (subst (λ b. KnowsUses uses (record { said = z.said; definitions = z.definitions; bodies = b })) (sym (append-nil z.bodies)) k)

pub one_unused : (uses : List (List Way)) (z : Seen) (es : List AbbreviationEntry) (i : ℕ) (e : AbbreviationEntry) → i < length es → e ≡ get_or es i e →
    KnowsUses uses (one_body (with_unused z (take i es)) e.name.items e.type_vars []) → KnowsUses uses (with_unused z (take (i + 1) es))
one_unused uses z es i e h is k =
    subst (λ a. KnowsUses uses (record { said = a; definitions = z.definitions; bodies = z.bodies ++ map unused (take (i + 1) es) })) (mapped_at abbreviation_said es i e z.said h is)
    (subst (λ b. KnowsUses uses (record { said = (z.said ++ map abbreviation_said (take i es)) ++ abbreviation_said e ∷ []; definitions = z.definitions; bodies = b })) (mapped_at unused es i e z.bodies h is) k)

no_abbreviations : (es : List KindEntry) → abbreviations_among (map kind_said es) ≡ []
no_abbreviations [] = refl
no_abbreviations (e ∷ es) = no_abbreviations es

abbrev pub with_kinds : Seen → List KindEntry → Seen
with_kinds z es = record { said = z.said ++ map kind_said es; definitions = z.definitions; bodies = z.bodies }

pub kinds_used : (uses : List (List Way)) (z : Seen) (es : List KindEntry) → KnowsUses uses z → KnowsUses uses (with_kinds z es)
kinds_used uses z es k = quiet_rows uses z (map kind_said es) (no_abbreviations es) k

pub signature_used : (uses : List (List Way)) (z : Seen) (s : Signature) → KnowsUses uses (with_unused (with_kinds z s.kinds.items) s.abbreviations.items) → KnowsUses uses (seen_signature z s)
signature_used uses z s k =
    subst (λ a. KnowsUses uses (record { said = a; definitions = z.definitions; bodies = z.bodies ++ unused_of s })) (append_assoc z.said (map kind_said s.kinds.items) (map abbreviation_said s.abbreviations.items)) k

-- signatures one after the other
pub none_used : (uses : List (List Way)) (z : Seen) → KnowsUses uses z → KnowsUses uses (seen_signatures z [])
none_used uses z k =
    subst (λ a. KnowsUses uses (record { said = a; definitions = z.definitions; bodies = z.bodies ++ [] })) (sym (append-nil z.said))
    (subst (λ b. KnowsUses uses (record { said = z.said; definitions = z.definitions; bodies = b })) (sym (append-nil z.bodies)) k)

pub one_used : (uses : List (List Way)) (z : Seen) (ss : List Signature) (i : ℕ) (s : Signature) → i < length ss → s ≡ get_or ss i s →
    KnowsUses uses (seen_signature (seen_signatures z (take i ss)) s) → KnowsUses uses (seen_signatures z (take (i + 1) ss))
one_used uses z ss i s h is k =
    subst (λ a. KnowsUses uses (record { said = a; definitions = z.definitions; bodies = z.bodies ++ of_each unused_of (take (i + 1) ss) })) (signatures_more said_of ss i s z.said h is)
    (subst (λ b. KnowsUses uses (record { said = (z.said ++ of_each said_of (take i ss)) ++ said_of s; definitions = z.definitions; bodies = b })) (signatures_more unused_of ss i s z.bodies h is) k)

-- sentences
pub none_noted : (uses : List (List Way)) (ns : List (List ℕ)) (z : Seen) (text : List ℕ) → KnowsUses uses z → KnowsUses uses (seen_lines ns z text [])
none_noted uses ns z text k =
    subst (λ a. KnowsUses uses (record { said = a; definitions = z.definitions; bodies = z.bodies ++ [] })) (sym (append-nil z.said))
    (subst (λ b. KnowsUses uses (record { said = z.said; definitions = z.definitions; bodies = b })) (sym (append-nil z.bodies)) k)

pub clause_noted : (uses : List (List Way)) (z : Seen) (more : List (Row Said)) (text : List ℕ) (l : Sentence) (raw : RawTerm) → l ≡ Says raw → KnowsUses uses z →
    KnowsUses uses (seen_lines (abbreviation_names ((z.said ++ said_in text (declarations (l ∷ []))) ++ more)) z text (declarations (l ∷ [])))
clause_noted uses z more text l raw is k =
    subst (λ l. KnowsUses uses (seen_lines (abbreviation_names ((z.said ++ said_in text (declarations (l ∷ []))) ++ more)) z text (declarations (l ∷ [])))) (sym is)
    (none_noted uses (abbreviation_names ((z.said ++ []) ++ more)) z text k)

-- a declaration that is noted
abbrev pub Notes : Names → List ℕ → Declaration → (old new : List (List Way)) → Type 0
Notes names text d old new =
    (z : Seen) (more : List (Row Said)) → Knows names ((z.said ++ said_by text d) ++ more) → KnowsUses old z → KnowsUses new (seen_line (abbreviation_names ((z.said ++ said_by text d) ++ more)) z text d)

pub sentence_noted : (names : Names) (z : Seen) (more : List (Row Said)) (text : List ℕ) (l : Sentence) (d : Declaration) (old new : List (List Way)) → l ≡ Declares d → Notes names text d old new →
    Knows names ((z.said ++ said_in text (declarations (l ∷ []))) ++ more) → KnowsUses old z →
    KnowsUses new (seen_lines (abbreviation_names ((z.said ++ said_in text (declarations (l ∷ []))) ++ more)) z text (declarations (l ∷ [])))
sentence_noted names z more text l d old new is f k u =
    let known = subst (λ r. Knows names ((z.said ++ r) ++ more)) (append-nil (said_by text d)) (subst (λ l. Knows names ((z.said ++ said_in text (declarations (l ∷ []))) ++ more)) is k) in
    let ns = abbreviation_names ((z.said ++ said_by text d) ++ more) in
    subst (λ l. KnowsUses new (seen_lines (abbreviation_names ((z.said ++ said_in text (declarations (l ∷ []))) ++ more)) z text (declarations (l ∷ [])))) (sym is)
    (subst (λ r. KnowsUses new (record { said = z.said ++ r; definitions = z.definitions; bodies = z.bodies ++ bodies_in (abbreviation_names ((z.said ++ r) ++ more)) text (d ∷ []) })) (sym (append-nil (said_by text d)))
    (subst (λ b. KnowsUses new (record { said = z.said ++ said_by text d; definitions = z.definitions; bodies = z.bodies ++ b })) (sym (append-nil (bodies_by ns text d))) (f z more known u)))

-- a sentence that is noted
abbrev pub NotesSentence : Names → List ℕ → Sentence → (old new : List (List Way)) → Type 0
NotesSentence names text l old new =
    (z : Seen) (more : List (Row Said)) → Knows names ((z.said ++ said_in text (declarations (l ∷ []))) ++ more) → KnowsUses old z →
    KnowsUses new (seen_lines (abbreviation_names ((z.said ++ said_in text (declarations (l ∷ []))) ++ more)) z text (declarations (l ∷ [])))

pub next_noted : (names : Names) (z : Seen) (text : List ℕ) (ls : List Sentence) (i : ℕ) (l : Sentence) (old new : List (List Way)) → i < length ls → l ≡ get_or ls i l → Knows names (z.said ++ said_in text (declarations ls)) →
    KnowsUses old (seen_lines (abbreviation_names (z.said ++ said_in text (declarations ls))) z text (declarations (take i ls))) → NotesSentence names text l old new →
    KnowsUses new (seen_lines (abbreviation_names (z.said ++ said_in text (declarations ls))) z text (declarations (take (i + 1) ls)))
next_noted names z text ls i l old new h is k u f =
    let ns = abbreviation_names (z.said ++ said_in text (declarations ls)) in
    let more = said_in text (declarations (drop (i + 1) ls)) in
    let now = seen_lines ns z text (declarations (take i ls)) in
    let step = lines_more (said_in text) (said_append text) ls i l z.said h is in
    let whole : (now.said ++ said_in text (declarations (l ∷ []))) ++ more ≡ z.said ++ said_in text (declarations ls) =
    ap (λ y. y ++ more) step ∙ append_assoc z.said (said_in text (declarations (take (i + 1) ls))) more ∙ ap (λ y. z.said ++ y) (sym (said_append text (declarations (take (i + 1) ls)) (declarations (drop (i + 1) ls))) ∙
    ap (said_in text) (sym (declared_append (take (i + 1) ls) (drop (i + 1) ls)) ∙ ap declarations (take-append-drop (i + 1) ls))) in
    let noted = f now more (subst (Knows names) (sym whole) k) u in
    let named = subst (λ n. KnowsUses new (seen_lines n now text (declarations (l ∷ [])))) (ap abbreviation_names whole) noted in
    subst (λ a. KnowsUses new (record { said = a; definitions = z.definitions; bodies = z.bodies ++ bodies_in ns text (declarations (take (i + 1) ls)) })) step
    (subst (λ b. KnowsUses new (record { said = now.said ++ said_in text (declarations (l ∷ [])); definitions = z.definitions; bodies = b })) (lines_more (bodies_in ns text) (bodies_append ns text) ls i l z.bodies h is) named)

pub module_noted : (uses : List (List Way)) (z : Seen) (text : List ℕ) (ds : List Declaration) → KnowsUses uses (seen_lines (abbreviation_names (z.said ++ said_in text ds)) z text ds) → KnowsUses uses (seen_text z text ds)
module_noted uses z text ds k = record { are = k.are; has = k.has; said = k.said }
