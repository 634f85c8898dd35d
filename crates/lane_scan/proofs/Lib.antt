mod MarkLaws
mod RunLaws
mod SameLaws
