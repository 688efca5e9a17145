-- Why files were not loaded: what its refusal tells, and which counts of the folder stand behind it.
use Rattle.std.proofs.Common.{◌≡◌, ◌≢◌, ℕ, List, [], Option, Some, None, sym, ◌∙◌, subst, inl, inr}
use Rattle.std.specs.Global.{Global}
use Rattle.std.specs.Prelude.{Vec, String, ◌⊎◌, IfSome, string_bytes}
use Rattle.std.proofs.lemmas.List.Elements.{All-nil}
use Rattle.lp_base.specs.Counts.{Counts, HasRisen}
use Rattle.lp_base.specs.Held.{Held}
use Rattle.lp_base.specs.Written.{Appends}
use Rattle.lp_base.specs.declared.limit.Limit.{Limit}
use Rattle.lp_base.specs.declared.status.Status.{Status}
use Rattle.lp_base.specs.declared.status.Status.TheVariants as variant
use Rattle.lp_lexer.specs.Lexis.{HasFault}
use Rattle.lp_lexer.specs.declared.token.LexFault.{LexFault}
use Rattle.lp_build.specs.declared.fault.BuildFault.{BuildFault}
use Rattle.lp_build.specs.declared.fault.BuildFault.TheVariants as build
use Rattle.lp_build.specs.Loads.{Outside, IsRead, IsMissing, IsLongFile}
use Rattle.lp_build.specs.Told.{AreKnown, IsTold, IsFaultNamed}
use Rattle.lp_lines.specs.Ends.{IsOtherLimit}
use Rattle.lp_lines.specs.Looked.{EndsAs, LacksMemory, IfLimited, Causes, CausesLong, Looked}
use Rattle.lp_lines.specs.Placed.{IsOfText, IfSource}
use Rattle.lp_lines.specs.Refusals.{IsSourceRefusal, TellsFault, TellsLimit, TellsMissing, line_of, status_of}
use Rattle.lp_lines.specs.declared.refusal.Refusal.{Refusal}
use Rattle.lp_lines.specs.declared.refusal.Refusal.TheVariants.{Line, Memory}
use Rattle.lp_lines.proofs.Limits.{is_file}
use Rattle.lp_lines.proofs.Looking.{cause_none, long_none, source_refusal}
use Rattle.lp_lines.proofs.Refusing.{text_is_source, text_not_fault, text_not_missing, text_limit}
use Rattle.lp_load.specs.Placed.{IsOfFile, IsPlaced, WritesPlaced}
use Rattle.lp_load.specs.Tells.{Tells}

-- the refusal of a fault of loading is one of sources
pub tells_source : (f : BuildFault) (r : Refusal) → Tells f r → IsSourceRefusal r
tells_source (build.Read n) (Line said line) h = inr (inr (inr (h.1.0, (h.0, h.1.1))))
tells_source (build.Missing n) (Line said line) h = inr (inl h.1.0)
tells_source (build.Limit l) (Line said line) h = inr (inr (inl h.0))
tells_source (build.Lex n e) r h = text_is_source r h
tells_source (build.Syntax e) r h = text_is_source r h
tells_source (build.Sig e) r h = text_is_source r h
tells_source (build.Module e) r h = text_is_source r h
tells_source build.Memory r h = text_is_source r h
tells_source (build.Read n) Memory h = tt
tells_source (build.Missing n) Memory h = tt
tells_source (build.Limit l) Memory h = tt

-- a refusal that tells a read fault comes of one, and of no other
fault_of_read : (f : BuildFault) (said : Status) (line : Vec ℕ Global) → Tells f (Line said line) → said ≡ variant.ReadFault → IsRead (Some f)
fault_of_read (build.Read n) said line h e = tt
fault_of_read (build.Missing n) said line h e = let a = h.1.0 in absurd (cc)
fault_of_read (build.Limit l) said line h e = let a = h.0 in absurd (cc)
fault_of_read (build.Lex n x) said line h e = absurd (text_not_fault said line h e)
fault_of_read (build.Syntax x) said line h e = absurd (text_not_fault said line h e)
fault_of_read (build.Sig x) said line h e = absurd (text_not_fault said line h e)
fault_of_read (build.Module x) said line h e = absurd (text_not_fault said line h e)
fault_of_read build.Memory said line h e = absurd (text_not_fault said line h e)

read_tells : (f : BuildFault) (r : Refusal) → Tells f r → IsRead (Some f) → EndsAs variant.ReadFault (Some r) ⊎ LacksMemory (Some r)
read_tells (build.Read n) (Line said line) h i = inl h.1.0
read_tells (build.Read n) Memory h i = inr tt
read_tells (build.Missing _) r h i = absurd i
read_tells (build.Lex _ _) r h i = absurd i
read_tells (build.Syntax _) r h i = absurd i
read_tells (build.Sig _) r h i = absurd i
read_tells (build.Module _) r h i = absurd i
read_tells (build.Limit _) r h i = absurd i
read_tells build.Memory r h i = absurd i

fault_of_missing : (f : BuildFault) (said : Status) (line : Vec ℕ Global) → Tells f (Line said line) → said ≡ variant.Missing → IsMissing (Some f)
fault_of_missing (build.Read n) said line h e = let a = h.1.0 in absurd (cc)
fault_of_missing (build.Missing n) said line h e = tt
fault_of_missing (build.Limit l) said line h e = let a = h.0 in absurd (cc)
fault_of_missing (build.Lex n x) said line h e = absurd (text_not_missing said line h e)
fault_of_missing (build.Syntax x) said line h e = absurd (text_not_missing said line h e)
fault_of_missing (build.Sig x) said line h e = absurd (text_not_missing said line h e)
fault_of_missing (build.Module x) said line h e = absurd (text_not_missing said line h e)
fault_of_missing build.Memory said line h e = absurd (text_not_missing said line h e)

missing_tells : (f : BuildFault) (r : Refusal) → Tells f r → IsMissing (Some f) → EndsAs variant.Missing (Some r) ⊎ LacksMemory (Some r)
missing_tells (build.Missing n) (Line said line) h i = inl h.1.0
missing_tells (build.Missing n) Memory h i = inr tt
missing_tells (build.Read _) r h i = absurd i
missing_tells (build.Lex _ _) r h i = absurd i
missing_tells (build.Syntax _) r h i = absurd i
missing_tells (build.Sig _) r h i = absurd i
missing_tells (build.Module _) r h i = absurd i
missing_tells (build.Limit _) r h i = absurd i
missing_tells build.Memory r h i = absurd i

fault_of_limit : (f : BuildFault) (said : Status) (line : Vec ℕ Global) → Tells f (Line said line) → said ≡ variant.Limit → IsLongFile (Some f) ⊎ IsOtherLimit line.items
fault_of_limit (build.Read n) said line h e = let a = h.1.0 in absurd (cc)
fault_of_limit (build.Missing n) said line h e = let a = h.1.0 in absurd (cc)
fault_of_limit (build.Limit l) said line h e = elim (is_file l) [ inl a ↦ inl (subst (λ x. IsLongFile (Some (build.Limit x))) (sym a) tt) | inr n ↦ inr (l, (n, h.1)) ]
fault_of_limit (build.Lex n x) said line h e = inr (text_limit said line h e)
fault_of_limit (build.Syntax x) said line h e = inr (text_limit said line h e)
fault_of_limit (build.Sig x) said line h e = inr (text_limit said line h e)
fault_of_limit (build.Module x) said line h e = inr (text_limit said line h e)
fault_of_limit build.Memory said line h e = inr (text_limit said line h e)

limit_tells : (l : Limit) (r : Refusal) → TellsLimit l r → EndsAs variant.Limit (Some r) ⊎ LacksMemory (Some r)
limit_tells l (Line said line) h = inl h.0
limit_tells l Memory h = inr tt

long_tells : (f : BuildFault) (r : Refusal) → Tells f r → IsLongFile (Some f) → EndsAs variant.Limit (Some r) ⊎ LacksMemory (Some r)
long_tells (build.Limit l) r h i = limit_tells l r h
long_tells (build.Read _) r h i = absurd i
long_tells (build.Missing _) r h i = absurd i
long_tells (build.Lex _ _) r h i = absurd i
long_tells (build.Syntax _) r h i = absurd i
long_tells (build.Sig _) r h i = absurd i
long_tells (build.Module _) r h i = absurd i
long_tells build.Memory r h i = absurd i

-- the counts of the outside behind the refusal of a fault of loading
module _ (f : BuildFault) (r : Refusal) (h : Tells f r) (old new : ℕ) where
  read_causes : Counts (IsRead (Some f)) old new → Causes variant.ReadFault (Some r) old new
  read_causes c = record { never_falls = c.never_falls; rises_only_then = λ l. read_tells f r h (c.rises_only_then l); risen = go r h }
    where
      go : (r : Refusal) → Tells f r → EndsAs variant.ReadFault (Some r) → HasRisen old new
      go (Line said line) t e = c.risen (fault_of_read f said line t e)
      go Memory t e = absurd e

  missing_causes : Counts (IsMissing (Some f)) old new → Causes variant.Missing (Some r) old new
  missing_causes c = record { never_falls = c.never_falls; rises_only_then = λ l. missing_tells f r h (c.rises_only_then l); risen = go r h }
    where
      go : (r : Refusal) → Tells f r → EndsAs variant.Missing (Some r) → HasRisen old new
      go (Line said line) t e = c.risen (fault_of_missing f said line t e)
      go Memory t e = absurd e

  long_causes : Counts (IsLongFile (Some f)) old new → CausesLong (Some r) old new
  long_causes c = record { never_falls = c.never_falls; rises_only_then = λ l. long_tells f r h (c.rises_only_then l); risen = go r h }
    where
      go : (r : Refusal) → Tells f r → IfLimited (Some r) (λ line. HasRisen old new ⊎ IsOtherLimit line)
      go (Line said line) t = λ e. elim (fault_of_limit f said line t e) [ inl i ↦ inl (c.risen i) | inr o ↦ inr o ]
      go Memory t = tt

module _ {F : Type 0} {rf ms ov wf : F → ℕ} {held : F → Option Held} {a b : F} where
  -- files were loaded
  pub looked_gathered : Outside rf ms ov wf held a b None → Looked rf ms ov wf held a b None
  looked_gathered h = record {
    kind = tt;
    read = cause_none variant.ReadFault h.read (λ e. e);
    missing = cause_none variant.Missing h.missing (λ e. e);
    long = long_none h.long (λ e. e);
    unwritten = h.unwritten;
    same = h.same;
  }

  -- they were not, and the refusal tells why
  pub looked_ungathered : (f : BuildFault) (r : Refusal) → Tells f r → Outside rf ms ov wf held a b (Some f) → Looked rf ms ov wf held a b (Some r)
  looked_ungathered f r t h = record {
    kind = source_refusal r (tells_source f r t);
    read = read_causes f r t (rf a) (rf b) h.read;
    missing = missing_causes f r t (ms a) (ms b) h.missing;
    long = long_causes f r t (ov a) (ov b) h.long;
    unwritten = h.unwritten;
    same = h.same;
  }

-- what is told of a refusal
pub placed_told : (told : Option Held) (query : List ℕ) (r : Refusal) (result : Status) (a b : Option (List ℕ)) → IfSource (IsPlaced told query) r →
    (result ≢ variant.WriteFault → (result ≡ status_of r) × Appends a b (line_of r)) → result ≡ variant.Source → WritesPlaced told query a b
placed_told told query (Line said line) result a b h kept e =
    let n : result ≢ variant.WriteFault = λ f. cc in
    record { line = line.items; placed = h (sym (kept n).0 ∙ e); appended = (kept n).1 }
placed_told told query Memory result a b h kept e =
    let n : result ≢ variant.WriteFault = λ f. cc in
    let m : result ≡ variant.Memory = (kept n).0 in
    absurd (cc)

-- where no file is known, all that are known are told
pub none_known : (told : Option Held) → AreKnown told []
none_known told = All-nil (λ k. IsTold told (string_bytes k.0) k.1.items)

-- what tells of the place of a file's text tells of the file
pub of_file : (told : Option Held) (file text : List ℕ) → IsTold told file text → (r : Refusal) → IfSource (IsOfText file text) r → IfSource (IsOfFile told) r
of_file told file text there (Line said line) h = λ e. record { file = file; text = text; there = there; placed = h e }
of_file told file text there Memory h = tt

-- the name of the file at fault
pub of_fault : (told : Option Held) (refused : Option (String Global)) (n : ℕ) (e : LexFault) (name : List ℕ) (r : Refusal) → IfSome refused
    (λ s. name ≡ string_bytes s) → IsFaultNamed told refused (build.Lex n e) → ((text : List ℕ) → HasFault text e → IfSource (IsOfText name text) r) →
    IfSource (IsOfFile told) r
of_fault told None n e name r is h k = absurd h
of_fault told (Some s) n e name r is h k = of_file told name h.0 (subst (λ w. IsTold told w h.0) (sym is) h.1.0) r (k h.0 h.1.1)

-- a refusal that tells of a file that was not read tells why files were not loaded
pub tells_read : (n : ℕ) (file : List ℕ) (f : BuildFault) (r : Refusal) → f ≡ build.Read n → TellsFault file r → Tells f r
tells_read n file f r is h = subst (λ x. Tells x r) (sym is) (file, h)

pub tells_missing : (n : ℕ) (file : List ℕ) (f : BuildFault) (r : Refusal) → f ≡ build.Missing n → TellsMissing file r → Tells f r
tells_missing n file f r is h = subst (λ x. Tells x r) (sym is) (file, h)
