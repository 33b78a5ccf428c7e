-- RULES 2.1: the event that a call asks for, by the bytes that its card has then. Assumes nothing.
use Rattle.rules.specs.declared.event.Event as asked
use Rattle.rules.specs.Event.{Event, event_of}

abbrev pub event_in : asked.Event → Event
event_in e = event_of e.code e.number e.account e.card.now
