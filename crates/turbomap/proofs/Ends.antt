-- From how the last part of a command ended to how the command ended.
use Rattle.std.proofs.Common.{◌≡◌, ◌≤◌, inl, inr, ℕ, List, [], ◌∷◌, Option, map, subst, sym, ap, ◌∙◌}
use Rattle.std.specs.Prelude.{string_bytes}
use Rattle.std.proofs.lemmas.List.{map-append}
use Rattle.tm_store.specs.Faults.{Rose}
use Rattle.tm_store.specs.Files.{Files}
use Rattle.turbomap.specs.declared.ready.Output.{Output}
use Rattle.turbomap.specs.declared.ready.Ready.{Ready}
use Rattle.turbomap.specs.declared.refusal.Refusal.{Refusal}
use Rattle.turbomap.specs.declared.refusal.Refusal.TheVariants as refusal
use Rattle.turbomap.specs.declared.status.Status.{Status}
use Rattle.turbomap.specs.declared.status.Status.TheVariants as status
use Rattle.turbomap.specs.Command.{Write, Command, Stored, Spoken, Says, IsUnchanged, IsChangedBy, IsWritten, FailsToWrite, Runs}
use Rattle.turbomap.specs.Prepared.{seen, writes_of, lines_of, status_of, line_of, IsReady, HasCause, IsUnwritten, IsDelivered}
use Rattle.turbomap.proofs.Lines.{rose_later}

-- Nothing was written before this last part: it begins with the files of the whole, and with counts that did not fall.
pub record IsLastPart (s m : Stored) : Type 0 where
  pub before : m.before ≡ s.before
  pub after : m.after ≡ s.after
  pub counts : (name : List ℕ) → s.unwritten_before name ≤ m.unwritten_before name
  pub counts_after : m.unwritten_after ≡ s.unwritten_after

-- what holds of the files before and after the last part holds of those of the whole
whole : (P : Option Files → Option Files → Type 0) (s m : Stored) → IsLastPart s m → P m.before m.after → P s.before s.after
whole P s m part is =
    subst (λ (told : Option Files). P told s.after) part.before (subst (λ (told : Option Files). P m.before told) part.after is)

fails_whole : (s m : Stored) (p : Spoken) (writes : List Write) → IsLastPart s m → FailsToWrite writes (record { stored = m; spoken = p })
    → FailsToWrite writes (record { stored = s; spoken = p })
fails_whole s m p writes part fails = record {
  written = fails.written;
  failed = fails.failed;
  unwritten = fails.unwritten;
  writes_are = fails.writes_are;
  counted = rose_later _ _ _ (part.counts fails.failed.name)
      (subst (λ (after : List ℕ → ℕ). Rose (m.unwritten_before fails.failed.name) (after fails.failed.name)) part.counts_after fails.counted);
  changed = whole (IsChangedBy fails.written (fails.failed.name ∷ [])) s m part fails.changed;
  says = fails.says;
}

-- what was ready was delivered
pub delivered : (c : Command) (ready : Ready) (s m : Stored) (p : Spoken) (ends : Status) → IsLastPart s m → IsReady c s.before ready
    → IsDelivered ready (record { stored = m; spoken = p }) ends → Runs c (record { stored = s; spoken = p }) ends
delivered c ready s m p status.Done part is done = record {
  texts = is.texts;
  read = is.read;
  writes = writes_of ready;
  lines = lines_of ready;
  made = is.made.made;
  named = is.made.named;
  ends = record { written = whole (IsWritten (writes_of ready)) s m part done.written; says = done.says };
}
delivered c ready s m p status.Unwritten part is (inl fails) = record {
  texts = is.texts;
  read = is.read;
  writes = writes_of ready;
  lines = lines_of ready;
  made = is.made.made;
  named = is.made.named;
  ends = inl (fails_whole s m p (writes_of ready) part fails);
}
delivered c ready s m p status.Unwritten part is (inr fails) = record {
  texts = is.texts;
  read = is.read;
  writes = writes_of ready;
  lines = lines_of ready;
  made = is.made.made;
  named = is.made.named;
  ends = inr (record { written = whole (IsWritten (writes_of ready)) s m part fails.written; says = fails.says });
}
delivered c ready s m p status.NoMemory part is done = absurd done
delivered c ready s m p status.BadWords part is done = absurd done
delivered c ready s m p status.Unread part is done = absurd done
delivered c ready s m p status.BadText part is done = absurd done
delivered c ready s m p status.TooLong part is done = absurd done
delivered c ready s m p status.NotAccepted part is done = absurd done

-- a refusal was said
refused_as : (c : Command) (s : Stored) (p : Spoken) (why : Refusal) → IsUnchanged s → HasCause c s why → Says p (line_of why)
    → Runs c (record { stored = s; spoken = p }) (status_of why)
refused_as c s p refusal.NoMemory unchanged cause says = record { unchanged = unchanged; line = line_of refusal.NoMemory; cause = cause; says = says }
refused_as c s p (refusal.Unread line) unchanged cause says = record { unchanged = unchanged; line = string_bytes line; cause = cause; says = says }
refused_as c s p (refusal.BadText line) unchanged cause says = record { unchanged = unchanged; line = string_bytes line; cause = cause; says = says }
refused_as c s p (refusal.TooLong line) unchanged cause says = record { unchanged = unchanged; line = string_bytes line; cause = cause; says = says }
refused_as c s p (refusal.NotAccepted line) unchanged cause says = record { unchanged = unchanged; line = string_bytes line; cause = cause; says = says }

pub refused : (c : Command) (s : Stored) (p : Spoken) (why : Refusal) (ends : Status) (line : List ℕ) → IsUnchanged s → HasCause c s why
    → ends ≡ status_of why → line ≡ line_of why → Says p line → Runs c (record { stored = s; spoken = p }) ends
refused c s p why ends line unchanged cause ends_is line_is says =
    subst (λ (ended : Status). Runs c (record { stored = s; spoken = p }) ended) (sym ends_is)
    (refused_as c s p why unchanged cause (subst (Says p) line_is says))

-- ---- what was written, by the names of the code

pub unwritten : (outputs : List Output) (s : Stored) (p : Spoken) (line : List ℕ) → IsUnwritten outputs s line → Says p line
    → FailsToWrite (map seen outputs) (record { stored = s; spoken = p })
unwritten outputs s p line is says = record {
  written = map seen is.written;
  failed = seen is.failed;
  unwritten = map seen is.unwritten;
  writes_are = ap (map seen) is.outputs_are ∙ map-append seen is.written (is.failed ∷ is.unwritten);
  counted = is.counted;
  changed = is.changed;
  says = subst (Says p) is.line_is says;
}
