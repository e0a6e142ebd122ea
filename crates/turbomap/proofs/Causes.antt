-- From what ends a preparation to the cause of a status.
use Rattle.std.proofs.Common.{◌≡◌, ◌≤◌, inl, inr, ℕ, List, Option, Some, Result, IfOk, IfErr, refl, subst}
use Rattle.std.specs.Prelude.{IfSome}
use Rattle.std.proofs.lemmas.Result.{IfOk-weaker, IfErr-weaker}
use Rattle.tm_store.specs.Faults.{Rose}
use Rattle.tm_store.specs.Files.{Files}
use Rattle.turbomap.specs.declared.ready.Ready.{Ready}
use Rattle.turbomap.specs.declared.refusal.Refusal.{Refusal}
use Rattle.turbomap.specs.declared.refusal.Refusal.TheVariants as refusal
use Rattle.turbomap.specs.declared.status.Status.{Status}
use Rattle.turbomap.specs.Command.{Input, Command, Stored, IsText, AreTexts, IsFileRefused, IsSomeFileRefused}
use Rattle.turbomap.specs.Prepared.{IsMade, IsReady, HasCause, IsFileRefusal, IsTextRefusal}
use Rattle.turbomap.proofs.Lines.{rose_later}

-- a file that is refused is a cause, where the status and the line are those of one of the command's files
pub file_cause : (c : Command) (s : Stored) (input : Input) (why : Refusal)
    → ((status : Status) (line : List ℕ) → IsFileRefused input s status line → IsSomeFileRefused c.inputs s status line)
    → IsFileRefusal input s why → HasCause c s why
file_cause c s input refusal.NoMemory among is = refl
file_cause c s input (refusal.Unread line) among is = among _ _ is
file_cause c s input (refusal.BadText line) among is = absurd is
file_cause c s input (refusal.TooLong line) among is = inl (among _ _ is)
file_cause c s input (refusal.NotAccepted line) among is = absurd is

-- texts that are refused are a cause, where they are those of the command's files
pub text_cause : (c : Command) (s : Stored) (texts : List (List ℕ)) (why : Refusal) → AreTexts s.before c.inputs texts → IsTextRefusal c texts why
    → HasCause c s why
text_cause c s texts refusal.NoMemory read is = refl
text_cause c s texts (refusal.Unread line) read is = absurd is
text_cause c s texts (refusal.BadText line) read is = record { texts = texts; read = read; refused = is }
text_cause c s texts (refusal.TooLong line) read is = inr (record { texts = texts; read = read; refused = is })
text_cause c s texts (refusal.NotAccepted line) read is = record { texts = texts; read = read; refused = is }

-- a file that is refused after other reads
pub later_refusal : (input : Input) (s t : Stored) (why : Refusal) → t.before ≡ s.before → s.unread_before input.name ≤ t.unread_before input.name
    → t.unread_after ≡ s.unread_after → IsFileRefusal input t why → IsFileRefusal input s why
later_refusal input s t refusal.NoMemory files le counts is = tt
later_refusal input s t (refusal.Unread line) files le counts is = record {
  counted = rose_later _ _ _ le (subst (λ (after : List ℕ → ℕ). Rose (t.unread_before input.name) (after input.name)) counts is.counted);
  line_is = is.line_is;
}
later_refusal input s t (refusal.BadText line) files le counts is = absurd is
later_refusal input s t (refusal.TooLong line) files le counts is = record {
  over = record {
    text = is.over.text;
    held = subst (λ (told : Option Files). IfSome told (λ files. files input.name ≡ Some is.over.text)) files is.over.held;
    long = is.over.long;
  };
  line_is = is.line_is;
}
later_refusal input s t (refusal.NotAccepted line) files le counts is = absurd is

-- a text that was read after other reads
pub later_text : (before now : Option Files) (input : Input) (text : List ℕ) → now ≡ before → IsText now input text → IsText before input text
later_text before now input text same is = subst (λ (told : Option Files). IsText told input text) same is

-- ---- all of a preparation

pub ready_of : (c : Command) (told : Option Files) (texts : List (List ℕ)) (r : Result Ready Refusal) → AreTexts told c.inputs texts
    → IfOk r (IsMade c texts) → IfOk r (IsReady c told)
ready_of c told texts r read made =
    IfOk-weaker r (IsMade c texts) (IsReady c told) (λ ready is. record { texts = texts; read = read; made = is }) made

pub refused_of : (c : Command) (s : Stored) (texts : List (List ℕ)) (r : Result Ready Refusal) → AreTexts s.before c.inputs texts
    → IfErr r (IsTextRefusal c texts) → IfErr r (HasCause c s)
refused_of c s texts r read why =
    IfErr-weaker r (IsTextRefusal c texts) (HasCause c s) (λ refusal is. text_cause c s texts refusal read is) why
