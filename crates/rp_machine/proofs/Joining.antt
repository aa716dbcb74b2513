-- Runs one after another.
use Rattle.std.proofs.Common.{◌≡◌, ℕ, zero, suc, ◌+◌, [], ◌++◌, Option, Some, None, refl, sym, ap, arith, ◌∙◌, zero-add, append_assoc}
use Rattle.rp_machine.proofs.Shared.{AreOneRun, RunsFollowEachOther, Setting, State, Why, events, events_in, next, states, stop}
use Rattle.rp_machine.proofs.Runs.{states_here, states_on, events_none, events_more}

none_first : (w : Setting) (s : State) → states w s zero ≡ s
unfolding states
none_first w s = refl

no_events : (w : Setting) (s : State) → events_in w s zero ≡ []
unfolding events_in
no_events w s = refl

-- one more cycle before the first run
more_by : (w : Setting) (s : State) (m n : ℕ) (cause : Option Why) → stop w s ≡ cause → AreOneRun w (next w s) m n → AreOneRun w s (suc m) n
more_by w s m n (Some why) h rest = record {
  state =
      states_here w s why (suc m + n) h ∙ sym (states_here w s why n h)
      ∙ ap (λ t. states w t n) (sym (states_here w s why (suc m) h));
  events =
      events_none w s why (suc m + n) h ∙ sym (events_none w s why n h)
      ∙ ap (λ t. events_in w t n) (sym (states_here w s why (suc m) h))
      ∙ ap (λ es. es ++ events_in w (states w s (suc m)) n) (sym (events_none w s why (suc m) h));
}
more_by w s m n None h rest =
    let e : suc m + n ≡ suc (m + n) = omega arith in
    let here = states_on w s m h in
    record {
      state = ap (states w s) e ∙ states_on w s (m + n) h ∙ rest.state ∙ ap (λ t. states w t n) (sym here);
      events =
          ap (events_in w s) e ∙ events_more w s (m + n) h ∙ ap (λ es. events w s ++ es) rest.events
          ∙ sym (append_assoc (events w s) (events_in w (next w s) m) (events_in w (states w (next w s) m) n))
          ∙ ap (λ es. es ++ events_in w (states w (next w s) m) n) (sym (events_more w s m h))
          ∙ ap (λ t. events_in w s (suc m) ++ events_in w t n) (sym here);
    }

pub join : (w : Setting) (s : State) (m n : ℕ) → AreOneRun w s m n
join w s zero n = record {
  state = ap (states w s) (zero-add n) ∙ ap (λ t. states w t n) (sym (none_first w s));
  events =
      ap (events_in w s) (zero-add n) ∙ ap (λ t. events_in w t n) (sym (none_first w s))
      ∙ ap (λ es. es ++ events_in w (states w s zero) n) (sym (no_events w s));
}
join w s (suc m) n = more_by w s m n (stop w s) refl (join w (next w s) m n)

pub runs_follow : RunsFollowEachOther
runs_follow w s m n = join w s m n
