use Rattle.line_list.proofs.feeds.next_line_by.Goals as goal

pub known_end-requires-clause-within : goal.known_end-requires-clause-within
known_end-requires-clause-within c = c.requires.within

pub known_end-requires-clause-feeds : goal.known_end-requires-clause-feeds
known_end-requires-clause-feeds c = c.requires.feeds

pub returns-in-Some-clause-end : goal.returns-in-Some-clause-end
returns-in-Some-clause-end c = c.in-Some.ensures

pub returns-in-Some-clause-feeds : goal.returns-in-Some-clause-feeds
returns-in-Some-clause-feeds c = c.requires.feeds

pub look_on-requires : goal.look_on-requires
look_on-requires c = c.requires.within

pub known_end-requires-2-clause-within : goal.known_end-requires-2-clause-within
known_end-requires-2-clause-within c = c.requires.within

pub known_end-requires-2-clause-feeds : goal.known_end-requires-2-clause-feeds
known_end-requires-2-clause-feeds c = c.look_on.ensures

pub returns-in-Some-known_end-clause-end : goal.returns-in-Some-known_end-clause-end
returns-in-Some-known_end-clause-end c = c.in-Some-known_end.ensures

pub returns-in-Some-known_end-clause-feeds : goal.returns-in-Some-known_end-clause-feeds
returns-in-Some-known_end-clause-feeds c = c.look_on.ensures

pub next_line-requires : goal.next_line-requires
next_line-requires c = c.requires.within

pub returns-in-None-clause-end : goal.returns-in-None-clause-end
returns-in-None-clause-end c = c.next_line.ensures

pub returns-in-None-clause-feeds : goal.returns-in-None-clause-feeds
returns-in-None-clause-feeds c = c.look_on.ensures
