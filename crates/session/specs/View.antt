-- The view of the Rust type of events as spec data.
use Rattle.session.specs.declared.event.Event as declared
use Rattle.session.specs.declared.event.Event.TheVariants as event
use Rattle.session.specs.Event.{Event, Login, Logout, SetRole, ResetRole, Ask, Describe, Prepare, Execute, Declare, Fetch, Close, Change, Load}

abbrev pub event_of : {A : Type 0} → declared.Event A → Event
event_of (event.Login role) = Login role
event_of (event.Logout session) = Logout session
event_of (event.SetRole session role) = SetRole session role
event_of (event.ResetRole session) = ResetRole session
event_of (event.Ask session text) = Ask session text
event_of (event.Describe session text) = Describe session text
event_of (event.Prepare session name text) = Prepare session name text
event_of (event.Execute session name) = Execute session name
event_of (event.Declare session name text) = Declare session name text
event_of (event.Fetch session name count) = Fetch session name count
event_of (event.Close session name) = Close session name
event_of (event.Change session text) = Change session text
event_of (event.Load table bytes) = Load table bytes.items
