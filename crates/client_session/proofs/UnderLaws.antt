-- What is under way: a reply is awaited, or none is.
use mathlib.Core.Path.{◌≡◌, refl}
use Rattle.client_session.specs.declared.Command.{Command}
use Rattle.client_session.specs.declared.Under.{Under}
use Rattle.client_session.specs.declared.Under.TheVariants.{Idle, Awaiting, Complete}
use Rattle.client_session.specs.Session.{when_awaiting}

-- no reply is awaited
abbrev pub NotAwaiting : Under → Type 0
NotAwaiting u = (k : Command) → u ≡ Awaiting k → ⊥

pub none_awaited : {X : Type 0} (u : Under) (none : X) (say : Command → X) → NotAwaiting u → when_awaiting u none say ≡ none
none_awaited Idle none say h = refl
none_awaited (Awaiting k) none say h = absurd (h k refl)
none_awaited Complete none say h = refl

-- what holds of both cases holds
pub awaiting_by : {X : Type 0} (P : X → Type 0) (u : Under) {none : X} {say : Command → X} → P none → ((k : Command) → P (say k)) → P (when_awaiting u none say)
awaiting_by P Idle p q = p
awaiting_by P (Awaiting k) p q = q k
awaiting_by P Complete p q = p
